use Rattle.std.proofs.Common.{◌≡◌, length, drop}
use Rattle.assembler.specs.Desk.{state, runs}
use Rattle.assembler.proofs.desk.run.Given as goal

abbrev pub invariant-loop-c : goal.invariant-loop-c
invariant-loop-c l = record {
  front_length : length l.front ≡ length l.fn.front;
  rom_length : length l.rom ≡ length l.fn.rom;
  script_length : length l.script ≡ length l.fn.script;
  left : runs l.file (state l.initial.now l.fn.front l.fn.rom l.fn.script) l.text ≡ runs l.file (state l.now l.front l.rom l.script) (drop l.c-index l.text);
}
