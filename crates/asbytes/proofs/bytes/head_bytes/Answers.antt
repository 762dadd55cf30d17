use Rattle.std.proofs.Common.{◌∙◌, ◌≤◌, append-nil, arith, length, replicate}
use Rattle.fields.proofs.Front.{laid-front}
use Rattle.asbytes.proofs.Head.{head-long}
use Rattle.asbytes.specs.Machine.{head_of}
use Rattle.layout.specs.Layout.{image_size}
use Rattle.asbytes.proofs.bytes.head_bytes.Goals as goal

pub returns : goal.returns
returns c =
    let s = c.args.s.now in
    c.put_head.ensures ∙ laid-front image_size (replicate image_size 0) (omega arith) (head_of s) (head-long s) ∙ append-nil (head_of s)
