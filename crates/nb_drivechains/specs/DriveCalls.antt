-- What is asked of a drive's objects, and what they answer. Our own.
use Rattle.std.specs.Prelude.{ℕ, ◌==◌, List, [], ◌∷◌, Option, Some, None, if◌then◌else◌}
use Rattle.nb_graph.specs.Deeds.{Offers, Stage}
use Rattle.nb_graph.specs.Trace.{Said}
use Rattle.nb_graph.specs.Whole.{port_at}
use Rattle.nb_drivenodes.specs.declared.drive_tag.DriveTag.TheVariants as drive
use Rattle.nb_drivenodes.specs.DriveTags.{drive_tag_number}
use Rattle.nb_nodes.specs.declared.load.Load.{Load}
use Rattle.nb_nodes.specs.declared.obj.Obj.{Obj}
use Rattle.nb_drivechains.specs.declared.drive_answer.DriveAnswer.{DriveAnswer}
use Rattle.nb_drivechains.specs.declared.drive_chain.DriveChain.{DriveChain}

-- so many blocks are asked for, from this one on
abbrev pub read_said : ℕ → ℕ → ℕ → Said
read_said rec block count = record { tag = drive_tag_number drive.Read; rec = rec; a = block; b = count; bytes = [] }

abbrev pub reads_drive : DriveChain → ℕ → ℕ → ℕ → List (Stage Obj Load)
reads_drive c rec block count = Offers (port_at c.unit.0 0) (read_said rec block count) ∷ []

-- what a message says that goes up from a unit, if it says that its command was answered
abbrev pub drive_answer_in : ℕ → ℕ → ℕ → Option DriveAnswer
drive_answer_in tag a b = if tag == drive_tag_number drive.Answered then Some (record { blocks = a; chap = b }) else None
