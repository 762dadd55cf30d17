-- A general transfer in progress: this channel, at this byte of its units.
use Rattle.std.specs.Prelude.{ℕ, Option, Some}
use Rattle.state.specs.declared.DmaProgress.{DmaProgress}

abbrev pub progress_at : ℕ → ℕ → Option DmaProgress
progress_at channel unit = Some (record { channel = channel; unit = unit })
