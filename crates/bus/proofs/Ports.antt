-- Accesses to memory leave the registers alone; accesses to a port of page $21 in bank $00 change WMADD, the open bus and what the APU was given,
-- and nothing that the DMA unit sees.
use Rattle.std.proofs.Common.{◌≡◌, ℕ, ◌-◌, ◌/◌, ◌%◌, ◌<◌, ◌≤◌, Bool, true, false, ◌&&◌, T, eqb, ltb, leb, List, [], ◌∷◌, set, refl, ap, ◌∙◌, subst, arith, ltb-false, le-ltb, lt-ltb, ne_eqb, eqb-true, le-leb}
use borrow.Author.Tests.{lt-leb}
use Rattle.common.proofs.TableLaws.{pick_elim}
use Rattle.common.specs.{Pick.pick, Range.within, Table.among, Table.find}
use Rattle.registers.specs.Groups.{with_io-wmadd, with_io-openbus, with_io-ports, with_ports_written}
use Rattle.registers.specs.Read.{channel_read, read_table, after_read}
use Rattle.registers.specs.{WmAdd.stepped, declared.Io.Io, declared.wm_address.WmAddress.WmAddress}
use Rattle.registers.specs.Write.{apu_written, channel_written, write_table, write_io}
use Rattle.bus.proofs.Seen.{seen}
use Rattle.bus.specs.Access.{io_written, register_read}
use Rattle.bus.specs.Route.{system, route_of, system_route, place_of, memory, next_wm}
use Rattle.bus.specs.declared.route.Route.{Route}
use Rattle.bus.specs.declared.route.Route.TheVariants.{Bank7E, Bank7F, Data, Registers, Cartridge}

-- ---- memory: a read and a write leave the registers alone

module _ (io : Io) where
  pub read-memory : (rom : List ℕ) (r : Route) (b a v : ℕ) → memory r ≡ true → (register_read rom io r b a v).io ≡ io
  unfolding register_read
  read-memory rom Bank7E b a v h = refl
  read-memory rom Bank7F b a v h = refl
  read-memory rom Data b a v h = cc
  read-memory rom Registers b a v h = cc
  read-memory rom Cartridge b a v h = refl

  pub write-memory : (r : Route) (a v : ℕ) → memory r ≡ true → io_written io r a v ≡ io
  unfolding io_written
  write-memory Bank7E a v h = refl
  write-memory Bank7F a v h = refl
  write-memory Data a v h = cc
  write-memory Registers a v h = cc
  write-memory Cartridge a v h = refl

pub place-memory : (w x : WmAddress) (r : Route) (a : ℕ) → memory r ≡ true → place_of w r a ≡ place_of x r a
unfolding place_of
place-memory w x Bank7E a h = refl
place-memory w x Bank7F a h = refl
place-memory w x Data a h = cc
place-memory w x Registers a h = cc
place-memory w x Cartridge a h = refl

-- an address that is not in $2000-$5FFF of a system bank is memory
pub clear-memory : (b a : ℕ) → (system b && within 0x2000 0x6000 a) ≡ false → memory (route_of b a) ≡ true
unfolding route_of system_route
clear-memory b a h = go (system b) h
  where
    Plain : Route → Type 0
    Plain r = memory r ≡ true

    zone : (x : Bool) → ltb a 0x2000 ≡ x → within 0x2000 0x6000 a ≡ false → Plain (pick x Bank7E (pick (ltb a 0x6000) (pick (eqb a 0x2180) Data Registers) Cartridge))
    zone true e q = refl
    zone false e q =
        let y : ltb a 0x6000 ≡ false = rw (le-leb 0x2000 a (ltb-false a 0x2000 e)) at q in
        ap (λ (z : Bool). memory (pick z (pick (eqb a 0x2180) Data Registers) Cartridge)) y

    go : (s : Bool) → (s && within 0x2000 0x6000 a) ≡ false → Plain (pick s (system_route a) (pick (eqb b 0x7E) Bank7E (pick (eqb b 0x7F) Bank7F Cartridge)))
    go true q = zone (ltb a 0x2000) refl q
    go false q = pick_elim Plain (eqb b 0x7E) refl (pick_elim Plain (eqb b 0x7F) refl refl)

-- ---- ports of page $21

-- the registers after a byte has gone through a port
abbrev pub moved_io : Io → WmAddress → ℕ → List ℕ → Io
moved_io io w v apu = with_io-ports (with_io-openbus (with_io-wmadd io w) v) (with_ports_written io.ports apu)

-- the byte of a register that is neither PPU's nor APU's
abbrev pub silent : Io → ℕ → ℕ
silent io p =
    pick (within 0x4300 0x4380 p) (channel_read io ((p - 0x4300) / 16) ((p - 0x4300) % 16)) (find (read_table io) p io.openbus)

module _ (p : ℕ) (from : 0x2100 ≤ p) (to : p < 0x2200) where
  far : (k : ℕ) → 0x2200 ≤ k → eqb p k ≡ false
  far k h = ne_eqb p k (λ q. omega (arith, to, h, q))

  pub port_route : route_of 0 p ≡ pick (eqb p 0x2180) Data Registers
  unfolding route_of system_route
  port_route = rw (le-ltb p 0x2000 (omega (arith, from)), lt-ltb p 0x6000 (omega (arith, to))) refl

  pub after-port : (io : Io) → after_read io p ≡ io
  after-port io = rw (far 0x4016 (omega arith), far 0x4017 (omega arith), far 0x4210 (omega arith), far 0x4211 (omega arith)) refl

  -- where neither PPU nor APU answers, nothing does
  pub port-silent : (io : Io) → silent io p ≡ io.openbus
  port-silent io =
      rw (
        lt-leb 0x4300 p (omega (arith, to)),
        far 0x4016 (omega arith),
        far 0x4017 (omega arith),
        far 0x4210 (omega arith),
        far 0x4211 (omega arith),
        far 0x4212 (omega arith),
        far 0x4213 (omega arith),
        far 0x4214 (omega arith),
        far 0x4215 (omega arith),
        far 0x4216 (omega arith),
        far 0x4217 (omega arith),
        far 0x4218 (omega arith),
        far 0x4219 (omega arith),
        far 0x421A (omega arith),
        far 0x421B (omega arith),
        far 0x421C (omega arith),
        far 0x421D (omega arith),
        far 0x421E (omega arith),
        far 0x421F (omega arith),
      ) refl

  -- a read: its byte is the open bus, and $2180 takes WMADD on
  pub read-port : (rom : List ℕ) (io : Io) (v : ℕ)
      → (register_read rom io (route_of 0 p) 0 p v).io ≡ with_io-openbus (with_io-wmadd io (next_wm p io.wmadd)) (register_read rom io (route_of 0 p) 0 p v).byte
  unfolding register_read
  read-port rom io v = rw port_route (go (eqb p 0x2180))
    where
      go : (b : Bool) → (register_read rom io (pick b Data Registers) 0 p v).io
          ≡ with_io-openbus (with_io-wmadd io (pick b (stepped io.wmadd) io.wmadd)) (register_read rom io (pick b Data Registers) 0 p v).byte
      go true = refl
      go false = ap (λ (x : Io). with_io-openbus x (register_read rom io Registers 0 p v).byte) (after-port io)

  -- a write: the same, and the APU's ports keep the byte
  module _ (io : Io) (v : ℕ) (own : (leb 0x2181 p && ltb p 0x2184) ≡ false) where
    abbrev apu : Bool → List ℕ
    apu b = pick b (set io.ports.written (p % 4) v) io.ports.written

    nearby : (k : ℕ) → 0x2181 ≤ k → k < 0x2184 → eqb p k ≡ false
    nearby k h j = ne_eqb p k (λ q. clash (rw (le-leb 0x2181 p (omega (arith, h, q)), lt-ltb p 0x2184 (omega (arith, j, q))) at own))
      where
        clash : true ≡ false → ⊥
        clash x = subst T x tt

    -- no register of its own
    abbrev opens : Io
    opens = with_io-openbus io v

    no_register : pick (within 0x4300 0x4380 p) (channel_written opens ((p - 0x4300) / 16) ((p - 0x4300) % 16) v) (find (write_table opens v) p opens) ≡ opens
    no_register =
        rw (
          lt-leb 0x4300 p (omega (arith, to)),
          nearby 0x2181 (omega arith) (omega arith),
          nearby 0x2182 (omega arith) (omega arith),
          nearby 0x2183 (omega arith) (omega arith),
          far 0x4016 (omega arith),
          far 0x4200 (omega arith),
          far 0x4201 (omega arith),
          far 0x4202 (omega arith),
          far 0x4203 (omega arith),
          far 0x4204 (omega arith),
          far 0x4205 (omega arith),
          far 0x4206 (omega arith),
          far 0x4207 (omega arith),
          far 0x4208 (omega arith),
          far 0x4209 (omega arith),
          far 0x420A (omega arith),
          far 0x420B (omega arith),
          far 0x420C (omega arith),
          far 0x420D (omega arith),
        ) refl

    register-write : write_io io p v ≡ moved_io io io.wmadd v (apu (leb 0x2140 p && ltb p 0x2180))
    register-write = go (leb 0x2140 p) (ltb p 0x2180) _ no_register
      where
        go : (a b : Bool) (x : Io) → x ≡ opens → pick (pick a b false) (apu_written opens (p % 4) v) x ≡ moved_io io io.wmadd v (apu (a && b))
        go true true x h = refl
        go true false x h = h
        go false b x h = h

    pub write-port : io_written io (route_of 0 p) p v ≡ moved_io io (next_wm p io.wmadd) v (apu (leb 0x2140 p && ltb p 0x2180))
    unfolding io_written
    write-port = ap (λ (r : Route). io_written io r p v) port_route ∙ go (eqb p 0x2180) refl
      where
        go : (b : Bool) → eqb p 0x2180 ≡ b
            → io_written io (pick b Data Registers) p v ≡ moved_io io (pick b (stepped io.wmadd) io.wmadd) v (apu (leb 0x2140 p && ltb p 0x2180))
        go true q = rw (eqb-true p 0x2180 q) refl
        go false q = register-write

  -- whatever the port, $2181-$2183 too
  abbrev Blind : Io → Io → Type 0
  Blind io x = seen x ≡ seen io

  register-seen : (io : Io) (v : ℕ) → Blind io (write_io io p v)
  register-seen io v =
      let P : Io → Type 0 = Blind io in
      pick_elim P (within 0x2140 0x2180 p) refl
      (rw (
        lt-leb 0x4300 p (omega (arith, to)),
        far 0x4016 (omega arith),
        far 0x4200 (omega arith),
        far 0x4201 (omega arith),
        far 0x4202 (omega arith),
        far 0x4203 (omega arith),
        far 0x4204 (omega arith),
        far 0x4205 (omega arith),
        far 0x4206 (omega arith),
        far 0x4207 (omega arith),
        far 0x4208 (omega arith),
        far 0x4209 (omega arith),
        far 0x420A (omega arith),
        far 0x420B (omega arith),
        far 0x420C (omega arith),
        far 0x420D (omega arith),
      ) (pick_elim P (among (0x2181 ∷ []) p) refl (pick_elim P (among (0x2182 ∷ []) p) refl (pick_elim P (among (0x2183 ∷ []) p) refl refl))))

  pub read-seen : (rom : List ℕ) (io : Io) (v : ℕ) → Blind io (register_read rom io (route_of 0 p) 0 p v).io
  read-seen rom io v = ap seen (read-port rom io v)

  pub write-seen : (io : Io) (v : ℕ) → Blind io (io_written io (route_of 0 p) p v)
  unfolding io_written
  write-seen io v = ap (λ (r : Route). seen (io_written io r p v)) port_route ∙ go (eqb p 0x2180)
    where
      go : (b : Bool) → Blind io (io_written io (pick b Data Registers) p v)
      go true = refl
      go false = register-seen io v
