use Rattle.std.proofs.Common.{◌≡◌, drop}
use Rattle.std.specs.List.{find}
use Rattle.std.specs.Str.{str_eq_ignore_ascii_case}
use Rattle.bench_reader.specs.Kinds.{kind_text, kinds}
use Rattle.bench_reader.proofs.kinds.kind_named.Given as goal

abbrev pub invariant-loop-kind : goal.invariant-loop-kind
invariant-loop-kind l = find (λ kind. str_eq_ignore_ascii_case l.word (kind_text kind)) (drop l.kind-index l.kind-items) ≡ find (λ kind. str_eq_ignore_ascii_case l.word (kind_text kind)) kinds
