-- Every corner, by computation.
use mathlib.Core.List.{map}
use lib.Count.{count_trailing_zeros}
use mathlib.Core.Path.{◌≡◌, refl}
use Rattle.bus.specs.Access.{push_access, opened, io_written, register_read}
use Rattle.bus.specs.Route.{system_route, route_of, place_of}
use Rattle.bus.specs.View.{channel_of, with_channel, mdmaen_of, hdmaen_of}
use Rattle.bus.specs.World.{read_at, write_at}
use Rattle.cartridge.specs.Cartridge.{rom_place}
use Rattle.corners.specs.Corners.{held, corners}
use Rattle.dma.specs.Cycle.{start_pending, due_of, act_by, acted, updated}
use Rattle.dma.specs.Pass.{drained_of, hdma_step}
use Rattle.hdma.specs.{Engine.set_hdma, Entry.reloaded, Entry.counted, Line.line_channel}
use Rattle.machine.specs.{Cycle.armed, Cycle.cycled, PowerOn.power_on_dma, PowerOn.power_on_machine}
use Rattle.machine.specs.Event.{pressed, evented, settled, timed}
use Rattle.registers.specs.PowerOn.{power_on}
use Rattle.signals.specs.AutoJoypad.{auto_step}
use Rattle.transfer.specs.{Byte.trip_of, Byte.moved, Pattern.offset_of, Pattern.unit_len, Table.table_read, Table.das_loaded}
use Rattle.transfer.specs.Unit.{unit_byte, unit_bytes, source_of, source_stored, unit_sent}
use Rattle.wram.specs.Olds.{push_old, kept_at}

pub proved : map (λ c. c.given) corners ≡ map (λ c. c.listed) corners
unfolding count_trailing_zeros held rom_place push_access opened io_written register_read system_route route_of place_of channel_of with_channel mdmaen_of hdmaen_of read_at write_at start_pending due_of act_by acted updated drained_of hdma_step set_hdma reloaded counted line_channel armed cycled pressed evented settled timed power_on_dma power_on_machine power_on auto_step trip_of moved offset_of unit_len table_read das_loaded unit_byte unit_bytes source_of source_stored unit_sent push_old kept_at
proved = refl
