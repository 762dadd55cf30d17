-- Demand 3: after any run of operations and back steps from fresh, some refused, the state is exactly what demand 2's rules give
-- for the survivors alone; a back step is refused exactly when the record keeps none. Document 02's request 2: the sum beside the machine is
-- that of the banks.
use Rattle.std.specs.Prelude.{ℕ, ◌≤◌, List, map, reverse, ◌≢◌, ◌≡◌, eqb, length, take}
use Rattle.bench.specs.Calls.{Desk, desk, fresh_call}
use Rattle.common.specs.{All.AllOf, Pick.pick, Width.Bytes}
use Rattle.layout.specs.Layout.{capacity}
use Rattle.rewind.specs.{History.did, History.survivors, History.kept_ops, Rules.Op, Rules.obeyed_all}
use Rattle.wram.specs.Sum.{ram_sum}
use Rattle.rewind.specs.Run.{Call, operation, back, TypedCall, called, run, deeds, deeds_at, state_of}

-- what is lent: a ROM that is not too long, two banks with any fill, a record of fresh's length; all of them bytes
pub record Lent (rom low high entries : List ℕ) (length₀ : ℕ) : Type 0 where
  pub rom-bytes : Bytes rom
  pub rom-most : length rom ≤ 4194304
  pub low-bytes : Bytes low
  pub high-bytes : Bytes high
  pub entries-length : length entries ≡ length₀

-- a desk from fresh
abbrev pub fresh_desk : (length₀ bitcycles : ℕ) → (low high entries : List ℕ) → Desk
fresh_desk length₀ bitcycles low high entries = desk (fresh_call low high length₀ bitcycles).bench low high entries

-- a desk with another record
abbrev pub on_record : Desk → List ℕ → Desk
on_record d entries = record { bench = d.bench; ram = d.ram; entries = entries }

-- no call is refused by 1, 2, 3, 4 or 9
pub record Sound (number : ℕ) : Type 0 where
  pub no1 : number ≢ 1
  pub no2 : number ≢ 2
  pub no3 : number ≢ 3
  pub no4 : number ≢ 4
  pub no9 : number ≢ 9

-- what is promised of the calls cs, made on the desk d₀
module _ (rom : List ℕ) (d₀ : Desk) (cs : List Call) where
  -- the operations that survive, in the order made, and those that the record keeps
  abbrev pub alive : List Op
  alive = reverse (survivors (deeds rom d₀ cs))

  abbrev pub kept : ℕ
  kept = length (kept_ops (capacity d₀.bench.length) (deeds rom d₀ cs))

  pub record Rewound : Type 0 where
    -- the state is what the survivors give when called alone
    pub alone : state_of (run rom d₀ (map operation alive)) ≡ state_of (run rom d₀ cs)
    -- and what the rules give for them, with no record and no refusal
    pub rules : obeyed_all rom (state_of d₀) alive ≡ state_of (run rom d₀ cs)
    -- called alone, on whatever record of that length, they are all accepted, and each meets the state that it met
    pub met : (entries : List ℕ) → length entries ≡ length d₀.entries → deeds_at rom (on_record d₀ entries) (map operation alive) ≡ map did (reverse (survivors (deeds_at rom d₀ cs)))
    -- the machine counts the operations that the record keeps
    pub counted : (run rom d₀ cs).bench.kept ≡ kept
    -- they are the latest survivors
    pub latest : map (λ p. p.op) (kept_ops (capacity d₀.bench.length) (deeds rom d₀ cs)) ≡ take kept (survivors (deeds rom d₀ cs))
    -- a back step is refused exactly where there is none, and then by 8
    pub refused : (called rom back (run rom d₀ cs)).number ≡ pick (eqb kept 0) 8 0
    -- the sum is that of all bytes in the banks
    pub summed : (run rom d₀ cs).bench.sum ≡ ram_sum (run rom d₀ cs).ram
    -- banks and record keep their lengths
    pub sizes : (length (run rom d₀ cs).ram.low ≡ 65536) × (length (run rom d₀ cs).ram.high ≡ 65536) × (length (run rom d₀ cs).entries ≡ length d₀.entries)
    -- whatever call comes next
    pub sound : (c : Call) → TypedCall c → Sound (called rom c (run rom d₀ cs)).number

-- demand 3
abbrev pub Demand3 : Type 0
Demand3 = (rom low high entries : List ℕ) (length₀ bitcycles : ℕ) → Lent rom low high entries length₀
    → (fresh_call low high length₀ bitcycles).number ≡ 0 → (cs : List Call) → AllOf TypedCall cs → Rewound rom (fresh_desk length₀ bitcycles low high entries) cs
