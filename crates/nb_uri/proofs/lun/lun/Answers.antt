use Rattle.std.proofs.Common.{refl, sym}
use Rattle.nb_uri.proofs.IscsiLemmas.{no_more_words}
use Rattle.nb_uri.proofs.lun.lun.Goals as goal

pub returns-then-is_some : goal.returns-then-is_some
returns-then-is_some c =
    rw (← c.groups.ensures, c.in_ok-first.ensures 3, c.in_ok-second.ensures 2, c.in_ok-third.ensures 1, c.in_ok-fourth.ensures 0, no_more_words c.in_ok-fourth.fourth.rest (sym c.if-is_some.ensures)) refl
