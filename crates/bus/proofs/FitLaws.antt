-- An access keeps registers, bytes overwritten and banks in their widths, and reads a byte.
use Rattle.std.proofs.Common.{Some, ℕ, ◌%◌, ltb, List, length, ◌∙◌, arith, length-set}
use Rattle.common.specs.All.{AllOf}
use Rattle.common.proofs.AllLaws.{all_set, all_get_or, byte_fits}
use Rattle.common.proofs.TableLaws.{pick_elim}
use Rattle.cartridge.specs.Cartridge.{rom_offset, rom_place, rom_byte}
use Rattle.registers.proofs.FitGroups.{fit-wmadd, fit-enables, fit-channels, fit-openbus}
use Rattle.registers.proofs.FitKept.{fit-write, fit-read_byte, fit-read}
use Rattle.registers.proofs.FitParts.{fit-stepped}
use Rattle.registers.specs.Fit.{FitChannel, FitIo}
use Rattle.registers.specs.Channel.{no_channel}
use Rattle.common.specs.Width.{Byte, Word, Bytes}
use Rattle.registers.specs.declared.{Io.Io, channel.DmaChannel.DmaChannel, read.IoRead.IoRead, wm_address.WmAddBank.WmAddBank}
use Rattle.registers.specs.declared.wm_address.WmAddBank.TheVariants as wm
use Rattle.wram.proofs.FitLaws.{peeked-fits, poked-fits, kept-fits, FitBanks, FitPlace}
use Rattle.wram.proofs.Ranges.{FitOld, OldsOk}
use Rattle.bus.proofs.Adds.{Recorded}
use Rattle.bus.specs.Access.{opened, data_stepped, io_written, register_read}
use Rattle.bus.specs.Route.{route_of, wm_place, place_of}
use Rattle.bus.specs.View.{channel_of, with_channel, mdmaen_of, with_mdmaen, hdmaen_of, with_core}
use Rattle.bus.specs.World.{World, Reading, world, place_at, read_at, write_at}
use Rattle.bus.specs.declared.route.Route.{Route}
use Rattle.bus.specs.declared.route.Route.TheVariants.{Bank7E, Bank7F, Data, Registers, Cartridge}

-- registers, bytes overwritten and both banks are in their widths
pub record FitWorld (w : World) : Type 0 where
  pub io : FitIo w.core.io
  pub olds : AllOf FitOld w.core.olds.items
  pub ram : FitBanks w.ram

-- and so is the byte read
pub record FitReading (r : Reading) : Type 0 where
  pub world : FitWorld r.world
  pub byte : Byte r.byte

wm-fits : (b : WmAddBank) {a : ℕ} → Word a → FitPlace (Some (wm_place b a))
wm-fits wm.Bank7E h = h
wm-fits wm.Bank7F h = h

rom-fits : (rom : List ℕ) (b a : ℕ) {d : ℕ} → Bytes rom → Byte d → Byte (rom_byte rom b a d)
rom-fits rom b a f h =
    let i = rom_place (length rom) (rom_offset b a) in
    pick_elim Byte (ltb a 0x8000) h (pick_elim Byte (ltb i (length rom)) (byte_fits rom i f) h)

record FitRead (r : IoRead) : Type 0 where
  io : FitIo r.io
  byte : Byte r.byte

module _ {io : Io} (f : FitIo io) where
  place-fits : (way : Route) {a : ℕ} → Word a → FitPlace (place_of io.wmadd way a)
  unfolding place_of
  place-fits Bank7E h = h
  place-fits Bank7F h = h
  place-fits Data h = wm-fits io.wmadd.bank f.wmadd.addr
  place-fits Registers h = tt
  place-fits Cartridge h = tt

  data_fits : {v : ℕ} → Byte v → FitIo (data_stepped io v)
  data_fits h = fit-openbus (fit-wmadd f (fit-stepped f.wmadd)) h

  written-fits : (way : Route) (a : ℕ) {v : ℕ} → Byte v → FitIo (io_written io way a v)
  unfolding io_written
  written-fits Bank7E a h = f
  written-fits Bank7F a h = f
  written-fits Data a h = data_fits h
  written-fits Registers a {v} h = fit-write a v f h
  written-fits Cartridge a h = f

  register-fits : (rom : List ℕ) (way : Route) (b a : ℕ) {v : ℕ} → Bytes rom → Byte v → FitRead (register_read rom io way b a v)
  unfolding register_read
  register-fits rom Bank7E b a g h = record { io = f; byte = h }
  register-fits rom Bank7F b a g h = record { io = f; byte = h }
  register-fits rom Data b a g h = record { io = data_fits h; byte = h }
  register-fits rom Registers b a g h = record { io = fit-read f a; byte = fit-read_byte f a }
  register-fits rom Cartridge b a g h = record { io = f; byte = rom-fits rom b a g f.openbus }

module _ {w : World} (f : FitWorld w) where
  pub read_fits : (rom : List ℕ) (b a : ℕ) → Bytes rom → FitReading (read_at rom w b a)
  unfolding read_at
  read_fits rom b a g =
      let r = register-fits f.io rom (route_of b a) b a g (peeked-fits f.ram (place_at w b a)) in
      record { world = record { io = r.io; olds = f.olds; ram = f.ram }; byte = r.byte }

  pub write-fits : (b : ℕ) {a v : ℕ} → Word a → Byte v → FitWorld (write_at w b a v)
  unfolding write_at
  write-fits b {a} {v} h k = record {
    io = written-fits f.io (route_of b a) a k;
    olds = kept-fits w.core.olds (place_at w b a) f.olds f.ram (place-fits f.io (route_of b a) h);
    ram = poked-fits f.ram (place_at w b a) v k;
  }

  pub channel-fits : (ch : ℕ) → FitChannel (channel_of w.core ch)
  unfolding channel_of
  channel-fits ch = all_get_or FitChannel w.core.io.channels (ch % 8) no_channel f.io.channels (omega arith)

  pub with_channel-fits : (ch : ℕ) {c : DmaChannel} → FitChannel c → FitWorld (with_core w (with_channel w.core ch c))
  unfolding with_channel
  with_channel-fits ch {c} h = record {
    io = fit-channels f.io (length-set w.core.io.channels (ch % 8) c ∙ f.io.channels-length)
        (all_set FitChannel w.core.io.channels (ch % 8) c f.io.channels h);
    olds = f.olds;
    ram = f.ram;
  }

  pub mdmaen-fits : Byte (mdmaen_of w.core)
  unfolding mdmaen_of
  mdmaen-fits = f.io.enables.mdmaen

  pub hdmaen-fits : Byte (hdmaen_of w.core)
  unfolding hdmaen_of
  hdmaen-fits = f.io.enables.hdmaen

  pub with_mdmaen-fits : {m : ℕ} → Byte m → FitWorld (with_core w (with_mdmaen w.core m))
  unfolding with_mdmaen
  with_mdmaen-fits h = record { io = fit-enables f.io (omega (arith, f.io.enables)); olds = f.olds; ram = f.ram }

-- nothing done on the bus yet
pub opened-fits : {io : Io} {l h : List ℕ} → FitIo io → Bytes l → Bytes h → FitWorld (world (opened io) l h)
unfolding opened
opened-fits f p q = record { io = f; olds = omega arith; ram = record { low = p; high = q } }

-- the bytes that an operation overwrote are as an entry has them
pub olds-ok : {a o : ℕ} {io : Io} {l h : List ℕ} {w : World} → Recorded a o io l h w → FitWorld w → OldsOk w.core.olds
olds-ok r f = record { filled = r.olds; fits = f.olds }
