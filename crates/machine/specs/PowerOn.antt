-- The machine at power-on (document 01; Dma::default, RSnesCore::load_rom): the DMA unit idle, no pad pressed, the clock at 0.
use Rattle.std.specs.Prelude.{ℕ, false, replicate, None}
use Rattle.state.specs.Hdma.{no_hdma}
use Rattle.registers.specs.PowerOn.{power_on}
use Rattle.state.specs.declared.{Dma.Dma, DmaState.TheVariants.Idle, Machine.Machine}

-- the DMA unit
unfoldable pub power_on_dma : Dma
power_on_dma = record { state = Idle; wait = 0; running = false; progress = None; pending = false; init = false; queue = 0; channels = replicate 8 no_hdma }

-- with the bit cycles of the run
unfoldable pub power_on_machine : ℕ → Machine
power_on_machine bitcycles =
    record { io = power_on; dma = power_on_dma; board = record { pad1 = 0; pad2 = 0; nmi = false; bitcycles = bitcycles; clock = 0 } }
