-- What a cycle answers, in bytes: held, edge, how many accesses, and eleven of (write, bank, address, byte).
use Rattle.std.specs.Prelude.{ℕ, Bool, List, ◌++◌, get_or}
use Rattle.bus.specs.{Access.no_access, declared.access.Access.Access, Access.Log}
use Rattle.fields.specs.{Little.le, Patch.patched, Table.times}
use Rattle.image.specs.Groups.{byte, flag}

-- an access: 1 for a write, bank, address, byte
abbrev pub enc_access : Access → List ℕ
enc_access a = flag a.write ++ byte a.bank ++ le 2 a.addr ++ byte a.byte

-- eleven of them
abbrev pub enc_accesses : List Access → List ℕ
enc_accesses l = times 11 (λ i. enc_access (get_or l i no_access))

-- where they begin
abbrev pub accesses_place : ℕ
accesses_place = 3

-- held, edge, how many accesses, and the accesses, laid over bytes
unfoldable pub answered : Bool → Bool → Log → List ℕ → List ℕ
answered held edge log out =
    patched (patched out 0 (flag held ++ flag edge ++ byte log.count)) accesses_place (enc_accesses log.items)
