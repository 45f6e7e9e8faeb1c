use Rattle.std.proofs.Common.{◌≡◌, map, take}
use Rattle.tr_reader.proofs.names.NameTable.copies.Given as goal

-- the names so far are copied
abbrev pub invariant-loop-name : goal.invariant-loop-name
invariant-loop-name l = map (λ v. v.items) l.copies.items ≡ map (λ w. w.now) (take l.name-index l.name-items)
