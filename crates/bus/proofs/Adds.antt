-- What accesses add to the log and to the bytes overwritten: none is lost, and the bytes put back undo the writes.
use Rattle.std.proofs.Common.{◌≡◌, ℕ, ◌+◌, ◌<◌, ◌≤◌, true, false, List, length, get_or, refl, ◌∙◌, arith}
use Rattle.common.proofs.FillLaws.{Filled, Grows, grows_none, grows_trans, grows_more, filled_grows, filled_none, push_grows, push-stored}
use Rattle.registers.specs.declared.{Io.Io, channel.DmaChannel.DmaChannel, pads.Pads.Pads}
use Rattle.registers.proofs.PadsLaws.{Undisturbed, still, read-leaves, write-leaves}
use Rattle.wram.specs.Banks.{Banks, banks, peeked}
use Rattle.wram.specs.Olds.{no_old, no_olds, put_back, back_from}
use Rattle.wram.proofs.KeepLaws.{GrowsOlds, keep_grows}
use Rattle.wram.proofs.Undo.{kept_back, poked-low, poked-high}
use Rattle.bus.specs.Access.{Log, no_access, push_access, opened, io_written, register_read}
use Rattle.bus.specs.Route.{route_of}
use Rattle.bus.specs.View.{with_io, with_channel, with_mdmaen, with_core}
use Rattle.bus.specs.World.{World, world, place_at, read_io_at, read_at, write_at}
use Rattle.bus.specs.declared.{access.Access.Access, route.Route.Route}
use Rattle.bus.specs.declared.route.Route.TheVariants.{Bank7E, Bank7F, Data, Registers, Cartridge}

-- how many accesses, and how many bytes overwritten
abbrev pub logs : World → ℕ
logs w = w.core.log.count

abbrev pub kept : World → ℕ
kept w = w.core.olds.count

abbrev pub GrowsLog : ℕ → Log → Log → Type 0
GrowsLog more s t = Grows no_access 11 more s.count s.items t.count t.items

-- from w to w': at most a accesses and o old bytes more, none lost; banks of the same size, and the old bytes put back undo it;
-- the automatic read and the buttons left alone
pub record Adds (a o : ℕ) (w w' : World) : Type 0 where
  pub log : GrowsLog a w.core.log w'.core.log
  pub old : GrowsOlds o w.core.olds w'.core.olds
  pub low : length w'.ram.low ≡ length w.ram.low
  pub high : length w'.ram.high ≡ length w.ram.high
  pub undo : kept w + o ≤ 4 → length w.core.olds.items ≡ 4 → put_back w'.core.olds w'.ram ≡ put_back w.core.olds w.ram
  pub pads : Undisturbed w.core.io.pads w'.core.io.pads

still_trans : {p q r : Pads} → Undisturbed p q → Undisturbed q r → Undisturbed p r
still_trans x y =
    record { auto = y.auto ∙ x.auto; buttons = record { one = y.buttons.one ∙ x.buttons.one; two = y.buttons.two ∙ x.buttons.two } }

-- other registers, the pads as they were: no access and no old byte
adds-io : (w : World) (io : Io) → Undisturbed w.core.io.pads io.pads → Adds 0 0 w (with_core w (with_io w.core io))
adds-io w io p = record {
  log = grows_none w.core.log.count w.core.log.items;
  old = grows_none w.core.olds.count w.core.olds.items;
  low = refl;
  high = refl;
  undo = λ r e. refl;
  pads = p;
}

pub adds_none : (w : World) → Adds 0 0 w w
adds_none w = adds-io w w.core.io still

pub adds_trans : {a b o p : ℕ} {w v u : World} → Adds a o w v → Adds b p v u → Adds (a + b) (o + p) w u
adds_trans x y = record {
  log = grows_trans x.log y.log;
  old = grows_trans x.old y.old;
  low = y.low ∙ x.low;
  high = y.high ∙ x.high;
  undo = λ r e. y.undo (omega (arith, x.old.most)) (x.old.size ∙ e) ∙ x.undo (omega arith) e;
  pads = still_trans x.pads y.pads;
}

pub adds-more : {a o : ℕ} (b p : ℕ) {w v : World} → Adds a o w v → a ≤ b → o ≤ p → Adds b p w v
adds-more b p x h k = record {
  log = grows_more b x.log h;
  old = grows_more p x.old k;
  low = x.low;
  high = x.high;
  undo = λ r. x.undo (omega arith);
  pads = x.pads;
}

-- a channel's and MDMAEN's new value
pub channel-adds : (w : World) (ch : ℕ) (c : DmaChannel) → Adds 0 0 w (with_core w (with_channel w.core ch c))
unfolding with_channel
channel-adds w ch c = adds-io w _ still

pub mdmaen-adds : (w : World) (m : ℕ) → Adds 0 0 w (with_core w (with_mdmaen w.core m))
unfolding with_mdmaen
mdmaen-adds w m = adds-io w _ still

read-still : (rom : List ℕ) (io : Io) (way : Route) (b a v : ℕ) → Undisturbed io.pads (register_read rom io way b a v).io.pads
unfolding register_read
read-still rom io Bank7E b a v = still
read-still rom io Bank7F b a v = still
read-still rom io Data b a v = still
read-still rom io Registers b a v = read-leaves io a
read-still rom io Cartridge b a v = still

write-still : (io : Io) (way : Route) (a v : ℕ) → Undisturbed io.pads (io_written io way a v).pads
unfolding io_written
write-still io Bank7E a v = still
write-still io Bank7F a v = still
write-still io Data a v = still
write-still io Registers a v = write-leaves io a v
write-still io Cartridge a v = still

push-log : (log : Log) (a : Access) → GrowsLog 1 log (push_access log a)
unfolding push_access
push-log log a = push_grows log.count log.items a (omega arith)

log-stored : (log : Log) (a : Access) → log.count < 11 → length log.items ≡ 11 → get_or (push_access log a).items log.count no_access ≡ a
unfolding push_access
log-stored log a h e = push-stored no_access 11 log.count log.items a h e

module _ (rom : List ℕ) (w : World) (b a : ℕ) where
  abbrev as_read : Access
  as_read = record { write = false; bank = b; addr = a; byte = (read_io_at rom w b a).byte }

  -- one access and no old byte
  pub read-adds : Adds 1 0 w (read_at rom w b a).world
  unfolding read_at
  read-adds = record {
    log = push-log w.core.log as_read;
    old = grows_none w.core.olds.count w.core.olds.items;
    low = refl;
    high = refl;
    undo = λ r e. refl;
    pads = read-still rom w.core.io (route_of b a) b a (peeked w.ram (place_at w b a));
  }

  -- the access is the next in the log
  pub read-logged : logs w < 11 → length w.core.log.items ≡ 11
      → get_or (read_at rom w b a).world.core.log.items (logs w) no_access ≡ record { write = false; bank = b; addr = a; byte = (read_at rom w b a).byte }
  unfolding read_at
  read-logged h e = log-stored w.core.log as_read h e

module _ (w : World) (b a v : ℕ) where
  abbrev as_write : Access
  as_write = record { write = true; bank = b; addr = a; byte = v }

  -- one access and at most one old byte
  pub write-adds : Adds 1 1 w (write_at w b a v)
  unfolding write_at
  write-adds = record {
    log = push-log w.core.log as_write;
    old = keep_grows w.core.olds w.ram (place_at w b a);
    low = poked-low w.ram (place_at w b a) v;
    high = poked-high w.ram (place_at w b a) v;
    undo = λ r e. kept_back w.core.olds w.ram (place_at w b a) v (omega arith) e;
    pads = write-still w.core.io (route_of b a) a v;
  }

  pub write-logged : logs w < 11 → length w.core.log.items ≡ 11 → get_or (write_at w b a v).core.log.items (logs w) no_access ≡ as_write
  unfolding write_at
  write-logged h e = log-stored w.core.log as_write h e

-- what an operation that begins with nothing done on the bus leaves, where registers and banks were io, l and h
pub record Recorded (a o : ℕ) (io : Io) (l h : List ℕ) (w : World) : Type 0 where
  pub log-most : logs w ≤ a
  pub log : Filled no_access 11 (logs w) w.core.log.items
  pub olds-most : kept w ≤ o
  pub olds : Filled no_old 4 (kept w) w.core.olds.items
  pub low : length w.ram.low ≡ length l
  pub high : length w.ram.high ≡ length h
  pub back : put_back w.core.olds w.ram ≡ banks l h
  pub pads : Undisturbed io.pads w.core.io.pads

back_none : (b : Banks) → put_back no_olds b ≡ b
unfolding put_back back_from
back_none b = refl

pub recorded : {a o : ℕ} (io : Io) (l h : List ℕ) {w : World} → Adds a o (world (opened io) l h) w → a ≤ 11 → o ≤ 4 → Recorded a o io l h w
unfolding opened
recorded io l h x p q = record {
  log-most = omega (arith, x.log.most);
  log = filled_grows (filled_none 11) x.log (omega arith);
  olds-most = omega (arith, x.old.most);
  olds = filled_grows (filled_none 4) x.old (omega arith);
  low = x.low;
  high = x.high;
  back = x.undo (omega arith) refl ∙ back_none (banks l h);
  pads = x.pads;
}

-- a single read, and a single write
pub read-recorded : (rom : List ℕ) (io : Io) (l h : List ℕ) (b a : ℕ) → Recorded 1 0 io l h (read_at rom (world (opened io) l h) b a).world
read-recorded rom io l h b a = recorded io l h (read-adds rom (world (opened io) l h) b a) (omega arith) (omega arith)

pub write-recorded : (io : Io) (l h : List ℕ) (b a v : ℕ) → Recorded 1 1 io l h (write_at (world (opened io) l h) b a v)
write-recorded io l h b a v = recorded io l h (write-adds (world (opened io) l h) b a v) (omega arith) (omega arith)
