-- The code's sheet, a lent buffer with a place, filled as the plain one is: what it is lent stays, its bytes and the place change.
use Rattle.std.specs.Prelude.{ℕ}
use mathlib.Core.List.{List}
use Rattle.append.specs.declared.Sheet.{Sheet}
use Rattle.append.specs.Sheet as plain

-- what it holds
abbrev pub shown : Sheet → plain.Sheet
shown s = plain.sheet s.text.now s.at

-- the same buffer, holding p
abbrev pub holding : Sheet → plain.Sheet → Sheet
holding s p = record s { text = record s.text { now = p.text }; at = p.at }

-- the same buffer, with what another has in it
abbrev pub keeping : Sheet → Sheet → Sheet
keeping s t = holding s (shown t)

-- with one byte more
abbrev pub pushed : Sheet → ℕ → Sheet
pushed s c = holding s (plain.push (shown s) c)

-- with bytes put
abbrev pub putting : Sheet → List ℕ → Sheet
putting s t = holding s (plain.puts (shown s) t)
