use Rattle.std.proofs.Common.{List, ◌≡◌, ◌-◌}
use Rattle.nb_dnsmsg.specs.Records.{ResourceRecord}
use Rattle.nb_dnsmsg.specs.Messages.{reached_by}
use Rattle.nb_dnsmsg.specs.Views.{IsSectionAt}
use Rattle.nb_dnsmsg.proofs.section.Section.follow.Given as goal

-- the aliases that are left lead to where all lead
abbrev pub invariant-loop-i : goal.invariant-loop-i
invariant-loop-i l = (rs : List ResourceRecord) → IsSectionAt l.message l.fn.self rs → reached_by 8 l.fn.name.items rs ≡ reached_by (8 - l.i) l.name.items rs
