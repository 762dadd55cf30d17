-- Each access takes WMADD and work RAM where a listing of it takes them; nothing else that a transfer does touches them.
use Rattle.std.proofs.Common.{None}
use Prim.Native.Nat.{ℕ, suc, ◌+◌, ◌≤◌, ◌<◌}
use mathlib.Core.List.{List}
use mathlib.Core.Logic.{◌≢◌}
use mathlib.Core.Path.{◌≡◌, refl, subst, ◌∙◌}
use native.Mathlib.Omega.{arith}
use lib.Dec.{T}
use lib.ListN.{length}
use Rattle.bus.proofs.Adds.{logs, read-adds, read-logged, write-adds, write-logged}
use Rattle.bus.specs.{Access.push_access, Access.register_read, Route.route_of, Route.place_of}
use Rattle.bus.specs.View.{with_io, with_channel, with_mdmaen, with_core}
use Rattle.bus.specs.World.{World, place_at, read_at, write_at}
use Rattle.bus.specs.declared.route.Route.{Route}
use Rattle.bus.specs.declared.route.Route.TheVariants.{Bank7E, Bank7F, Data, Registers, Cartridge}
use Rattle.registers.specs.declared.{Io.Io, channel.DmaChannel.DmaChannel, wm_address.WmAddress.WmAddress}
use Rattle.touch.proofs.Wmadd.{as_read, as_write, read-wmadd, write-wmadd}
use Rattle.wram.specs.Banks.{Banks, peeked}
use Rattle.followed.specs.Standing.{ram_by, Told, Stands}
use Rattle.followed.proofs.Replay.{items, one}

-- from w to w' at most a accesses are logged, and while the log has room for them WMADD and work RAM go with them
pub record Follows (a : ℕ) (w w' : World) : Type 0 where
  pub most : logs w' ≤ logs w + a
  pub size : length (items w') ≡ length (items w)
  pub keeps : (s : WmAddress) (b : Banks) → logs w + a ≤ 11 → length (items w) ≡ 11 → Stands s b w → Stands s b w'

-- other registers, with WMADD as it was
follows-io : (w : World) (io : Io) → io.wmadd ≡ w.core.io.wmadd → Follows 0 w (with_core w (with_io w.core io))
follows-io w io p = record { most = omega arith; size = refl; keeps = λ s b r e t. record { wmadd = p ∙ t.wmadd; ram = t.ram; told = t.told } }

pub follows-none : (w : World) → Follows 0 w w
follows-none w = follows-io w w.core.io refl

pub follows_trans : {a b : ℕ} {w v u : World} → Follows a w v → Follows b v u → Follows (a + b) w u
follows_trans x y = record {
  most = omega (arith, x.most, y.most);
  size = y.size ∙ x.size;
  keeps = λ s b r e t. y.keeps s b (omega (arith, x.most)) (x.size ∙ e) (x.keeps s b (omega arith) e t);
}

pub follows-more : {a : ℕ} (b : ℕ) {w v : World} → Follows a w v → a ≤ b → Follows b w v
follows-more b x h = record { most = omega (arith, x.most); size = x.size; keeps = λ s b r. x.keeps s b (omega arith) }

pub channel-follows : (w : World) (ch : ℕ) (c : DmaChannel) → Follows 0 w (with_core w (with_channel w.core ch c))
unfolding with_channel
channel-follows w ch c = follows-io w _ refl

pub mdmaen-follows : (w : World) (m : ℕ) → Follows 0 w (with_core w (with_mdmaen w.core m))
unfolding with_mdmaen
mdmaen-follows w m = follows-io w _ refl

read_count : (rom : List ℕ) (w : World) (b a : ℕ) → logs w < 11 → logs (read_at rom w b a).world ≡ suc (logs w)
unfolding read_at push_access
read_count rom w b a h = omega arith

write-count : (w : World) (b a v : ℕ) → logs w < 11 → logs (write_at w b a v) ≡ suc (logs w)
unfolding write_at push_access
write-count w b a v h = omega arith

read-ram : (rom : List ℕ) (w : World) (b a : ℕ) → (read_at rom w b a).world.ram ≡ ram_by w.core.io.wmadd (as_read rom w b a) w.ram
unfolding read_at
read-ram rom w b a = refl

write-ram : (w : World) (b a v : ℕ) → (write_at w b a v).ram ≡ ram_by w.core.io.wmadd (as_write b a v) w.ram
unfolding write_at
write-ram w b a v = refl

-- a byte of work RAM is read as it is
byte-by : (rom : List ℕ) (io : Io) (way : Route) (w : WmAddress) (b a v : ℕ) → place_of w way a ≢ None → (register_read rom io way b a v).byte ≡ v
unfolding register_read place_of
byte-by rom io Bank7E w b a v h = refl
byte-by rom io Bank7F w b a v h = refl
byte-by rom io Data w b a v h = refl
byte-by rom io Registers w b a v h = absurd (h refl)
byte-by rom io Cartridge w b a v h = absurd (h refl)

read_told : (rom : List ℕ) (w : World) (b a : ℕ) → Told w.core.io.wmadd (as_read rom w b a) w.ram
unfolding read_at
read_told rom w b a e h = byte-by rom w.core.io (route_of b a) w.core.io.wmadd b a (peeked w.ram (place_at w b a)) h

write-told : (w : World) (b a v : ℕ) → Told w.core.io.wmadd (as_write b a v) w.ram
write-told w b a v e h = absurd (subst T e tt)

pub read-follows : (rom : List ℕ) (w : World) (b a : ℕ) → Follows 1 w (read_at rom w b a).world
read-follows rom w b a =
    let x = (read-adds rom w b a).log in
    record {
      most = x.most;
      size = x.size;
      keeps = λ s c r e t. one s c w (read_at rom w b a).world (as_read rom w b a) (read_count rom w b a (omega arith)) (x.front r)
          (read-logged rom w b a (omega arith) e) t (read-wmadd rom w b a) (read-ram rom w b a) (read_told rom w b a);
    }

pub write-follows : (w : World) (b a v : ℕ) → Follows 1 w (write_at w b a v)
write-follows w b a v =
    let x = (write-adds w b a v).log in
    record {
      most = x.most;
      size = x.size;
      keeps = λ s c r e t. one s c w (write_at w b a v) (as_write b a v) (write-count w b a v (omega arith)) (x.front r)
          (write-logged w b a v (omega arith) e) t (write-wmadd w b a v) (write-ram w b a v) (write-told w b a v);
    }
