-- What becomes of an open's objects, as it is found in a call's parts.
use Rattle.std.proofs.Common.{◌≡◌, true, Option, Some, None, sym, ◌∙◌, subst}
use Rattle.nb_terms.specs.declared.cause.Cause.{Cause}
use Rattle.nb_ledger.specs.Flat.{Heard}
use Rattle.nb_graph.specs.Whole.{Objects}
use Rattle.nb_nodes.specs.declared.obj.Obj.{Obj}
use Rattle.nb_machine.specs.CommandRecords.{no_route}
use Rattle.nb_teller.specs.Spelling.{HasSpelled, Spelling}
use Rattle.nb_open.specs.declared.ended.Ended.{Ended}
use Rattle.nb_open.specs.declared.open.Open.{Open}
use Rattle.nb_open.specs.Objects.{AreObjectsStill, ClosesObjects}
use Rattle.nb_open.specs.Settling.{LetsObjectsGo, SettlesOpen, has_come_to_end, is_turned_back}

pub has_spelled : (d s : Spelling) (found c : Option Cause) → d ≡ s → found ≡ c → HasSpelled d found → HasSpelled s c
has_spelled d s found c same is has = subst (λ (x : Spelling). HasSpelled x c) same (subst (λ (z : Option Cause). HasSpelled d z) is has)

module _ (o : Open) (s : Spelling) (g h : Objects Obj) (m n : Heard) (e : Ended) (c : Cause) (same : e.cause ≡ c) where
  pub settles_over : HasSpelled s (Some c) → LetsObjectsGo o.objects e g h m n → SettlesOpen o s g h m n (Some e)
  settles_over has lets = has_come_to_end e (subst (λ z. HasSpelled s (Some z)) (sym same) has) lets

  pub settles_back : (a : Objects Obj) (k : Heard) → HasSpelled s None → s.is_stuck ≡ true → c ≡ no_route o.speaker.server.0 → AreObjectsStill o.objects g a → ClosesObjects o.objects g a c m k → LetsObjectsGo o.objects e a h k n →
      SettlesOpen o s g h m n (Some e)
  settles_back a k has stuck is on closes lets = is_turned_back e a k has stuck (same ∙ is) on (subst (λ z. ClosesObjects o.objects g a z m k) (sym same) closes) lets
