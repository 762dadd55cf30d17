-- Who makes the accesses of a cycle (src/dma.rs, update_dma_cycles): at most one channel acts, and the state before the cycle names it.
use Rattle.std.specs.Prelude.{ℕ, ◌%◌, Bool, false, ◌&&◌, eqb, get_or, Option, None, Some}
use Rattle.registers.specs.Channel.{no_channel}
use Rattle.registers.specs.declared.Io.{Io}
use Rattle.state.specs.declared.{Dma.Dma, DmaProgress.DmaProgress}
use Rattle.state.specs.declared.{DmaState.DmaState, Machine.Machine}
use Rattle.state.specs.declared.DmaState.TheVariants as phase
use Rattle.transfer.specs.Bits.{lowest}
use Rattle.touch.specs.declared.who.Who.{Who}
use Rattle.touch.specs.declared.who.Who.TheVariants.{Cpu, Dma as General, Hdma}

-- the channel of the transfer in progress
abbrev pub who_from : Option DmaProgress → Who
who_from None = Cpu
who_from (Some p) = General p.channel

-- an H-blank pass serves the lowest channel of its queue; where nothing is moved the bus is the CPU's
abbrev pub who_by : DmaState → Option DmaProgress → ℕ → Who
who_by phase.Idle p queue = Cpu
who_by phase.Startup p queue = Cpu
who_by phase.Dma p queue = who_from p
who_by phase.Hdma p queue = Hdma (lowest queue)

unfoldable pub who_of : Dma → Who
who_of d = who_by d.state d.progress d.queue

-- byte 0 of a transfer whose DAS is 0: 65,536 bytes move, if nothing rewrites DAS (document 01: "DAS 0 moves 65,536 bytes")
abbrev pub starts_from : Io → Option DmaProgress → Bool
starts_from io None = false
starts_from io (Some p) = eqb p.unit 0 && eqb (get_or io.channels (p.channel % 8) no_channel).das 0

abbrev pub starts_by : DmaState → Io → Option DmaProgress → Bool
starts_by phase.Idle io p = false
starts_by phase.Startup io p = false
starts_by phase.Dma io p = starts_from io p
starts_by phase.Hdma io p = false

unfoldable pub starts_at_zero : Machine → Bool
starts_at_zero m = starts_by m.dma.state m.io m.dma.progress
