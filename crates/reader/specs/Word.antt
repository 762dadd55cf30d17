-- A word of the text form (docs/BENCH.md) while it is read: src/word.rt lists its forms.
use Rattle.std.specs.Prelude.{ℕ, ◌+◌, ◌*◌, Bool, true, false, ◌&&◌, Option, Some, None, leb, ltb}
use Rattle.common.specs.Pick.{pick}
use Rattle.reader.specs.declared.word.{Form.Form, Word.Word, Token.Token}
use Rattle.reader.specs.declared.word.Form.TheVariants.{Between, Letters, Dollar, Hex, Colon, Banked, Decimal, Name, Bad}
use Rattle.reader.specs.declared.word.Token.TheVariants as token

-- by its fields
abbrev pub word : Form → ℕ → ℕ → Word
word f v b = record { form = f; value = v; bank = b }

-- a word of this form with nothing in it yet
abbrev pub blank_word : Form → Word
blank_word f = word f 0 0

-- no word at all
abbrev pub bad_word : Word
bad_word = blank_word Bad

abbrev pub named_by : Form → Bool
named_by Name = true
named_by _ = false

-- a file name is read
abbrev pub in_name : Word → Bool
in_name w = named_by w.form

-- letters count in base 36, digits behind `$` in base 16
abbrev pub base_of : Form → ℕ
base_of Letters = 36
base_of Decimal = 10
base_of _ = 16

-- the form with one digit more
abbrev pub after_of : Form → Form
after_of Dollar = Hex
after_of Colon = Banked
after_of f = f

-- a word that starts with a decimal digit is a decimal number
abbrev pub opened_of : Form → ℕ → Form
opened_of Between d = pick (ltb d 10) Decimal Letters
opened_of f d = f

-- the value with one digit more; 2^56 and more grow no further
abbrev pub grown_of : ℕ → ℕ → ℕ → ℕ
grown_of v b d = pick (ltb v 72057594037927936) (v * b + d) v

-- a digit or letter of value d
unfoldable pub letter_of : Word → ℕ → Word
letter_of w d =
    pick (ltb d (base_of (opened_of w.form d)))
    (word (after_of (opened_of w.form d)) (grown_of w.value (base_of (opened_of w.form d)) d) w.bank)
    bad_word

abbrev pub dollar_by : Form → Word
dollar_by Between = blank_word Dollar
dollar_by _ = bad_word

-- `$` starts a number
unfoldable pub dollar_of : Word → Word
dollar_of w = dollar_by w.form

abbrev pub colon_by : Form → ℕ → Word
colon_by Hex v = word Colon 0 v
colon_by _ v = bad_word

-- `:` stands behind the bank
unfoldable pub colon_of : Word → Word
colon_of w = colon_by w.form w.value

-- bank and address; no number where one of them is too large
abbrev pub banked_of : ℕ → ℕ → Option Token
banked_of b v = pick (leb b 255 && leb v 65535) (Some (token.Number (b * 65536 + v))) None

abbrev pub meaning_by : Form → ℕ → ℕ → Option Token
meaning_by Letters v b = Some (token.Letters v)
meaning_by Hex v b = Some (token.Number v)
meaning_by Decimal v b = Some (token.Number v)
meaning_by Banked v b = banked_of b v
meaning_by _ v b = None

-- what a whole word is, if it is one
unfoldable pub meaning_of : Word → Option Token
meaning_of w = meaning_by w.form w.value w.bank
