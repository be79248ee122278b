use Rattle.std.proofs.Common.{◌≡◌, ◌++◌, codes, drop}
use Rattle.std.specs.List.{flat_map}
use Rattle.xs_stub.specs.Stub.{name_of}
use Rattle.xs_stub.proofs.writer.write_more_names.Given as goal

-- the text so far, and that of what is left
abbrev pub invariant-loop-param : goal.invariant-loop-param
invariant-loop-param l = l.text ++ flat_map (λ param. codes ", " ++ name_of param) (drop l.param-index l.params)
    ≡ flat_map (λ param. codes ", " ++ name_of param) l.params
