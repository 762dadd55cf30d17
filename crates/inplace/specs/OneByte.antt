-- One byte of a general transfer between memory and a port of the B bus, said of the machine's bytes.
use Rattle.std.specs.Prelude.{ℕ, ◌+◌, ◌-◌, ◌%◌, ◌^◌, true, not, ◌&&◌, List, Option, ◌++◌, nat_le, nat_lt, slice_set}
use Rattle.common.specs.{Pick.pick, Range.within}
use Rattle.asbytes.specs.{Answer.answered, Crossed.Crossed, Crossed.crossed, Machine.head_of, Machine.summed}
use Rattle.asbytes.specs.Places.{slot_at, count_at, length_at, sum_at}
use Rattle.bus.specs.Route.{route_of, place_of, next_wm}
use Rattle.bus.specs.declared.route.Route.{Route}
use Rattle.bus.specs.declared.route.Route.TheVariants.{Bank7E, Bank7F, Data, Registers, Cartridge}
use Rattle.cartridge.specs.Cartridge.{rom_byte}
use Rattle.decode.specs.Decode.{wmadd_at}
use Rattle.entry.specs.Slot.{write_slot}
use Rattle.fields.specs.{Little.le, Little.span, Patch.patched}
use Rattle.image.specs.Encode.{enc_olds}
use Rattle.image.specs.Groups.{byte, flag, bank_byte}
use Rattle.layout.specs.Layout as the
use Rattle.layout.specs.Layout.{num, entry_size}
use Rattle.registers.specs.declared.wm_address.WmAddress.{WmAddress}
use Rattle.transfer.specs.{Bits.flag_of, Bits.down, Byte.moved_log, Byte.next_a1t}
use Rattle.way.specs.Seen.{clock_at, nmi_at, busy_at, unit_at, dmap_at, a1t_at, das_at, bside_at, trip_in}
use Rattle.wram.specs.Banks.{banks, peeked, poked}
use Rattle.wram.specs.Olds.{no_olds, kept_at}
use Rattle.wram.specs.Sum.{follows}
use Rattle.wram.specs.declared.Place.{Place}
use Rattle.inplace.specs.Rest.{at, counting, edge_at}

-- bank and address of WMADD
abbrev pub wmadd_bytes : WmAddress → List ℕ
wmadd_bytes w = byte (bank_byte w.bank) ++ le 2 w.addr

module _ (e : List ℕ) where
  -- what PPU and APU answer at a port; elsewhere in the page the open bus
  abbrev pub port_byte : ℕ → ℕ
  port_byte a =
      pick (within 0x2134 0x2140 a) (num e (the.ppu (a - 0x2134)))
      (pick (within 0x2140 0x2180 a) (num e (the.apu (a % 4))) (num e the.openbus))

  -- the byte of work RAM behind an address
  unfoldable pub place_for : ℕ → ℕ → Option Place
  place_for b a = place_of (wmadd_at e) (route_of b a) a

  -- the byte that a read gives, by its route; v is work RAM's
  abbrev pub byte_by : List ℕ → Route → ℕ → ℕ → ℕ → ℕ
  byte_by rom Bank7E b a v = v
  byte_by rom Bank7F b a v = v
  byte_by rom Data b a v = v
  byte_by rom Registers b a v = port_byte a
  byte_by rom Cartridge b a v = rom_byte rom b a (num e the.openbus)

  -- the byte at an address
  unfoldable pub byte_from : (rom l h : List ℕ) → ℕ → ℕ → ℕ
  byte_from rom l h b a = byte_by rom (route_of b a) b a (peeked (banks l h) (place_for b a))

  -- WMADD goes on where the port is $2180
  unfoldable pub wmadd_next : WmAddress
  wmadd_next = next_wm (bside_at e) (wmadd_at e)

  -- the bytes last written to the APU
  unfoldable pub written_next : ℕ → List ℕ
  written_next v =
      let old = span 4 e (at (the.written 0)) in
      pick (not (flag_of (dmap_at e) 0x80) && nat_le 0x2140 (bside_at e) && nat_lt (bside_at e) 0x2180) (slice_set old (bside_at e % 4) v) old

  -- WMADD, open bus and NMI line, laid over the image
  abbrev after_registers : ℕ → List ℕ
  after_registers v =
      patched (patched (patched e (at the.bank) (wmadd_bytes wmadd_next)) (at the.openbus) (byte v)) (at the.nmi) (flag (nmi_at e))

  -- progress and wait, laid over x
  abbrev after_unit : List ℕ → List ℕ
  after_unit x = patched (patched x (at the.unit) (le 4 ((unit_at e + 1) % 2 ^ 32))) (at the.wait) (le 4 7)

  -- the channel's A1T and DAS
  abbrev after_channel : List ℕ → List ℕ
  after_channel x =
      patched (patched x (at (the.register (busy_at e) the.a1t)) (le 2 (next_a1t (dmap_at e) (a1t_at e)))) (at (the.register (busy_at e) the.das)) (le 2 (down 65536 (das_at e)))

  -- the image once the byte v has moved: these, then APU ports and clock
  unfoldable pub after_move : ℕ → List ℕ
  after_move v =
      patched (patched (after_channel (after_unit (after_registers v))) (at (the.written 0)) (written_next v)) (at the.clock) (le 8 ((clock_at e + 1) % 2 ^ 64))

-- the entry has the image from before, and the byte of work RAM that was replaced; the sum follows work RAM
unfoldable pub carried : (rom s l h en out : List ℕ) → Crossed
carried rom s l h en out =
    let e = head_of s in
    let t = trip_in e in
    let v = byte_from e rom l h t.source.bank t.source.addr in
    let place = place_for e t.target.bank t.target.addr in
    let ram = poked (banks l h) place v in
    let counts = counting (patched s 0 (after_move e v)) (slot_at s) (count_at s) (length_at s) in
    crossed 0 (summed counts (follows (sum_at s) (banks l h) ram)) ram.low ram.high
    (write_slot entry_size (slot_at s) (patched e (at the.old_count) (enc_olds (kept_at no_olds (banks l h) place))) en)
    (answered true (edge_at e) (moved_log t v) out)
