-- A unit of which i bytes have gone, and one more.
use Rattle.std.proofs.Common.{◌≡◌, ℕ, ◌+◌, ◌%◌, ◌∙◌, add-one}
use Rattle.bus.specs.Lent.{world_on, holding}
use Rattle.bus.specs.declared.bus.Bus.{Bus}
use Rattle.registers.specs.declared.channel.DmaChannel.{DmaChannel}
use Rattle.transfer.specs.Unit.{unit_byte, unit_bytes}

pub sent_more : (b : Bus) (c : DmaChannel) (bank addr i : ℕ) {k n : Bus} → k ≡ holding b (unit_bytes b.rom.now c bank addr i (world_on b))
    → n ≡ holding k (unit_byte k.rom.now c bank ((addr + i) % 65536) i (world_on k)) → n ≡ holding b (unit_bytes b.rom.now c bank addr (i + 1) (world_on b))
unfolding unit_bytes
sent_more b c bank addr i e f =
    rw (add-one i) (f ∙ (λ j. holding (e j) (unit_byte (e j).rom.now c bank ((addr + i) % 65536) i (world_on (e j)))))
