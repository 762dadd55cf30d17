-- The whole transfer, over the rules (document 02, 5/12).
use Prim.Native.Nat.{ℕ, ◌+◌}
use mathlib.Core.List.{List, [], ◌∷◌, ◌++◌, map, append-nil}
use mathlib.Core.Path.{◌≡◌, refl, sym, ap, ◌∙◌}
use native.Mathlib.Omega.{arith}
use borrow.Author.Tests.{ne_eqb}
use lib.ListN.{length}
use Rattle.common.proofs.AllLaws.{all_get_or}
use Rattle.common.specs.All.{AllOf}
use Rattle.bus.proofs.Seen.{Seen, seen}
use Rattle.dma.proofs.Steps.{idle}
use Rattle.dma.specs.Cycle.{alignment}
use Rattle.machine.proofs.Plain.{all_held}
use Rattle.machine.specs.Plain.{begin, plain}
use Rattle.registers.specs.{Channel.no_channel, Fit.FitChannel}
use Rattle.registers.specs.Groups.{with_enables_mdmaen}
use Rattle.registers.specs.declared.{Enables.Enables, channel.DmaChannel.DmaChannel}
use Rattle.state.specs.{Fit.FitMachine, declared.Machine.Machine}
use Rattle.transfer.specs.declared.byte.Trip.{Trip}
use Rattle.wram.specs.Banks.{Banks}
use Rattle.loads.proofs.Channel.{Fit}
use Rattle.loads.proofs.Phase.{Plan, Goes, goes_on, join, named}
use Rattle.loads.proofs.Rounds.{Round, rounds}
use Rattle.loads.proofs.Turn.{resting, closing, starting, rests}
use Rattle.loads.specs.Load.{selected, channel_at, channels_of, ways_of, cycles_of, holds}
use Rattle.loads.specs.Promise.{Clear, Ready, LoadedByRules, WholeTransfer}

all_fit : (cs : List DmaChannel) → AllOf FitChannel cs → (chs : List ℕ) → AllOf Clear (map (channel_at cs) chs) → AllOf Fit (map (channel_at cs) chs)
all_fit cs w [] h = tt
all_fit cs w (ch ∷ chs) h = (record { widths = all_get_or FitChannel cs ch no_channel w (omega arith); clear = h.0 }, all_fit cs w chs h.1)

module _ (rom : List ℕ) (m : Machine) (ram : Banks) (fits : FitMachine m) (ready : Ready m) where
  abbrev cs : List DmaChannel
  cs = m.io.channels

  abbrev e : Enables
  e = m.io.enables

  abbrev ways : List Trip
  ways = ways_of (channels_of cs e.mdmaen)

  unit-idle : m.dma ≡ idle m.dma
  unit-idle = λ i. record {
    state = ready.idle i;
    wait = ready.wait_0 i;
    running = ready.not-running i;
    progress = ready.no_progress i;
    pending = ready.none-pending i;
    init = m.dma.init;
    queue = m.dma.queue;
    channels = m.dma.channels;
  }

  round : Round rom m.dma cs e (selected e.mdmaen)
  round = rounds rom m.dma (selected e.mdmaen) cs e fits.io.channels-length fits.io.enables.mdmaen refl (all_fit cs fits.io.channels (selected e.mdmaen) ready.clear)

  -- what the unit sees at the end
  abbrev last : Seen
  last = record { channels = round.after; enables = with_enables_mdmaen e 0 }

  goes : Goes rom (begin m ram) (holds m) (resting last m.dma) ways
  goes =
      let n = alignment m.board.clock + 8 in
      let cost = cycles_of (channels_of cs e.mdmaen) in
      let some = ne_eqb e.mdmaen 0 ready.some in
      named rom (omega arith) refl (append-nil ways)
      (goes_on rom (begin m ram) n (cost + 1) [] (ways ++ []) (starting rom (seen m.io) m.dma some (begin m ram) (λ i. record { sees = seen m.io; dma = unit-idle i }))
      (join rom cost 1 ways [] round.phase (closing rom last m.dma refl)))

  loaded : LoadedByRules rom m ram
  loaded = record {
    each = goes.each;
    then = rests rom last m.dma refl (plain rom (holds m) (begin m ram)) goes.plan;
    eight = ap (λ (p : Plan). length p.sees.channels) goes.plan ∙ round.long;
    channels = λ ch l. ap (λ (p : Plan). channel_at p.sees.channels ch) goes.plan ∙ round.left ch l;
    enable = ap (λ (p : Plan). p.sees.enables.mdmaen) goes.plan;
    unit = ap (λ (p : Plan). p.dma) goes.plan ∙ sym unit-idle;
    bytes = goes.bytes;
    number = goes.number;
    accesses = goes.made;
  }

  -- so many are held
  pub held-count : (plain rom (holds m) (begin m ram)).held ≡ holds m
  held-count = all_held rom (begin m ram) (holds m) goes.each ∙ omega arith

-- the request's sentence
pub whole-transfer : WholeTransfer
whole-transfer = loaded
