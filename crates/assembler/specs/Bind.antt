-- A bench file (document 01, "Bench file") from its bodies: contents, settings and fill, ROM, script.
use Rattle.std.specs.Prelude.{ℕ, ◌-◌, List, ◌++◌, ltb, length}
use Rattle.common.specs.Pick.{pick}
use Rattle.benchfile.specs.Build.{contents_of}
use Rattle.fields.specs.Little.{le}

-- a length as a file can hold it; a longer body makes no file
unfoldable pub size_of : ℕ → ℕ
size_of n = pick (ltb n 65536) n 65535

-- the fill stands behind the 2 bytes of the settings
unfoldable pub fill_size : ℕ → ℕ
fill_size n = pick (ltb n 2) 0 (size_of (n - 2))

-- a row of the contents: start and length
unfoldable pub head_of : ℕ → ℕ → List ℕ
head_of a n = le 4 a ++ le 4 n

-- the whole file, with settings of 2 bytes
unfoldable pub bound : List ℕ → List ℕ → List ℕ → List ℕ
bound front rom script =
    contents_of 2 (fill_size (length front)) (size_of (length rom)) (size_of (length script)) ++ (front ++ (rom ++ script))
