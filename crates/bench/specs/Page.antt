-- Page look (document 01): page p is the 256 bytes from place 256p, of whichever bank holds it; a refused look gives an empty part.
use Rattle.std.specs.Prelude.{ℕ, ◌-◌, ◌*◌, List, [], ltb, length, take, drop}
use Rattle.common.specs.Pick.{pick}
use Rattle.ring.specs.Refusal.{banks_off}

unfoldable pub page_call : List ℕ → List ℕ → ℕ → List ℕ
page_call low high p =
    pick (banks_off (length low) (length high)) []
    (pick (ltb p 256) (take 256 (drop (p * 256) low))
    (pick (ltb p 512) (take 256 (drop ((p - 256) * 256) high)) []))
