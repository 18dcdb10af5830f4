-- RFC 7143, section 11.12.3: the numbers of a login's stages
use Rattle.std.specs.Prelude.{ℕ, ◌==◌, Option, Some, None, if◌then◌else◌}
use Rattle.nb_iscsipdu.specs.declared.stage.Stage.{Stage}
use Rattle.nb_iscsipdu.specs.declared.stage.Stage.TheVariants.{Security, Operational, FullFeature}

abbrev pub stage_number : Stage → ℕ
stage_number Security = 0
stage_number Operational = 1
stage_number FullFeature = 3

abbrev pub stage_numbered : ℕ → Option Stage
stage_numbered n = if n == 0 then Some Security else (if n == 1 then Some Operational else (if n == 3 then Some FullFeature else None))
