use Rattle.std.proofs.Common.{ℕ, ◌+◌, ◌%◌, ◌^◌, take, refl, ap, ◌∙◌, arith}
use Rattle.asbytes.proofs.Head.{head-take}
use Rattle.asbytes.specs.Machine.{head_of}
use Rattle.fields.proofs.{Front.front, Front.within, Front.front-over, Patch.no_room}
use Rattle.fields.proofs.Little.{le_four, le_eight}
use Rattle.fields.specs.Little.{le}
use Rattle.image.specs.Groups.{byte, flag}
use Rattle.inplace.proofs.{OneByteJoin.a1t-by, OneByteJoin.das-by, OneByteJoin.written-long, OneByteJoin.moved-long}
use Rattle.inplace.specs.OneByte.{wmadd_bytes, after_move}
use Rattle.inplace.specs.Rest.{at}
use Rattle.layout.specs.Layout as the
use Rattle.layout.specs.Layout.{image_size}
use Rattle.inplace.proofs.onebyte.move_on.Goals as goal

pub returns-then-s-ge-IMAGE_SIZE : goal.returns-then-s-ge-IMAGE_SIZE
unfolding after_move
returns-then-s-ge-IMAGE_SIZE c =
    let s = c.args.s.now in
    let room = c.if-s-ge-IMAGE_SIZE.true in
    let base = c.base_at-base.ensures in
    let wmadd = c.wmadd_bytes.ensures ∙ ap wmadd_bytes c.wmadd_next-wmadd.ensures in
    let unit = ap (λ (n : ℕ). le 4 ((n + 1) % 2 ^ 32)) c.unit_at-unit.ensures in
    let clock = ap (λ (n : ℕ). le 8 ((n + 1) % 2 ^ 64)) c.clock_at-clock.ensures in
    let a1t = a1t-by (take image_size s) base c.byte.ensures c.two.ensures c.next_a1t-a1t.ensures (c.to_le_bytes-then-s-ge-IMAGE_SIZE-2.ensures) in
    let das = das-by (take image_size s) base c.two-das.ensures refl (c.to_le_bytes-then-s-ge-IMAGE_SIZE-3.ensures) in
    let f1 = within {k = at the.bank} (front image_size s room) c.put.ensures refl wmadd (omega arith) in
    let f2 = within {t = byte c.args.moved} {k = at the.openbus} f1 c.put-then-s-ge-IMAGE_SIZE.ensures refl refl (omega arith) in
    let f3 = within {k = at the.nmi} f2 c.put-then-s-ge-IMAGE_SIZE-2.ensures refl (ap flag c.nmi_at-nmi.ensures) (omega arith) in
    let f4 = within {k = at the.unit} f3 c.put-then-s-ge-IMAGE_SIZE-3.ensures refl (c.to_le_bytes.ensures ∙ le_four _ ∙ unit) (omega arith) in
    let f5 = within {k = at the.wait} f4 c.put-then-s-ge-IMAGE_SIZE-4.ensures refl (c.to_le_bytes-then-s-ge-IMAGE_SIZE.ensures ∙ le_four 7) (omega arith) in
    let f6 = within f5 c.put-then-s-ge-IMAGE_SIZE-5.ensures (ap (λ (n : ℕ). n + 2) base) a1t (omega arith) in
    let f7 = within f6 c.put-then-s-ge-IMAGE_SIZE-6.ensures (ap (λ (n : ℕ). n + 5) base) das (omega arith) in
    let f8 = within {k = at (the.written 0)} f7 c.put-then-s-ge-IMAGE_SIZE-7.ensures refl c.written_next-written.ensures (omega (arith, written-long (take image_size s) c.args.moved)) in
    let f9 = within {k = at the.clock} f8 c.put-then-s-ge-IMAGE_SIZE-8.ensures refl (c.to_le_bytes-then-s-ge-IMAGE_SIZE-4.ensures ∙ le_eight _ ∙ clock) (omega arith) in
    rw (head-take s room) (front-over image_size s room f9)

pub returns-else-s-ge-IMAGE_SIZE : goal.returns-else-s-ge-IMAGE_SIZE
returns-else-s-ge-IMAGE_SIZE c =
    no_room image_size c.args.s.now (after_move (head_of c.args.s.now) c.args.moved) (moved-long c.args.s.now c.args.moved) c.if-s-ge-IMAGE_SIZE.false
