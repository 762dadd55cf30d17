-- What the way of a cycle looks at in the machine's bytes, each number by its field of the entry's table.
use Rattle.std.specs.Prelude.{ℕ, ◌%◌, Bool, not, ◌&&◌, List, eqb}
use Rattle.std.specs.Int.Bits.{bit_and}
use Rattle.common.specs.declared.snes_address.SnesAddress.{SnesAddress}
use Rattle.layout.specs.Layout as the
use Rattle.layout.specs.Layout.{num}
use Rattle.transfer.specs.{Byte.trip_of, Pattern.offset_of, Pattern.b_address}
use Rattle.transfer.specs.declared.byte.Trip.{Trip}

module _ (s : List ℕ) where
  -- cycles that the unit still waits
  abbrev pub wait_at : ℕ
  wait_at = num s the.wait

  -- the master clock
  abbrev pub clock_at : ℕ
  clock_at = num s the.clock

  -- the NMI line as it will be: NMITIMEN and RDNMI bit 7
  abbrev pub nmi_at : Bool
  nmi_at = not (eqb (bit_and (num s the.nmitimen) 0x80) 0) && not (eqb (bit_and (num s the.rdnmi) 0x80) 0)

  -- the channel in progress, and where its registers stand
  abbrev pub busy_at : ℕ
  busy_at = num s the.channel % 8

  abbrev pub base_at : ℕ
  base_at = (the.place (the.register busy_at the.dmap)).start

  -- its DMAP
  abbrev pub dmap_at : ℕ
  dmap_at = num s (the.register busy_at the.dmap)

  -- the place in its transfer units
  abbrev pub unit_at : ℕ
  unit_at = num s the.unit

  -- its A1T
  abbrev pub a1t_at : ℕ
  a1t_at = num s (the.register busy_at the.a1t)

  -- the bank of A1T
  abbrev pub a1b_at : ℕ
  a1b_at = num s (the.register busy_at the.a1b)

  -- its DAS
  abbrev pub das_at : ℕ
  das_at = num s (the.register busy_at the.das)

  -- the port on the B side
  abbrev pub bside_at : ℕ
  bside_at = b_address (num s (the.register busy_at the.bbad)) (offset_of dmap_at unit_at)

  -- the address on the A side
  abbrev pub aside_at : SnesAddress
  aside_at = record { bank = a1b_at; addr = a1t_at }

  -- where the byte comes from and goes to
  abbrev pub trip_in : Trip
  trip_in = trip_of dmap_at a1b_at a1t_at bside_at

-- all that is tested
pub record Seen : Type 0 where
  pub auto : ℕ
  pub word1 : ℕ
  pub word2 : ℕ
  pub buttons1 : ℕ
  pub buttons2 : ℕ
  pub running : ℕ
  pub mdmaen : ℕ
  pub olds : ℕ
  pub clock : ℕ
  pub wait : ℕ
  pub pending : ℕ
  pub state : ℕ
  pub present : ℕ
  pub dmap : ℕ
  pub a1t : ℕ
  pub a1b : ℕ
  pub das : ℕ
  pub bside : ℕ

-- as the bytes have it
abbrev pub seen : List ℕ → Seen
seen s =
    record {
      auto = num s the.auto_kind;
      word1 = num s the.pad1;
      word2 = num s the.pad2;
      buttons1 = num s (the.buttons 0);
      buttons2 = num s (the.buttons 1);
      running = num s the.running;
      mdmaen = num s the.mdmaen;
      olds = num s the.old_count;
      clock = clock_at s;
      wait = wait_at s;
      pending = num s the.pending;
      state = num s the.dma_state;
      present = num s the.present;
      dmap = dmap_at s;
      a1t = a1t_at s;
      a1b = a1b_at s;
      das = das_at s;
      bside = bside_at s;
    }
