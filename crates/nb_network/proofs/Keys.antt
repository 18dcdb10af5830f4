-- The open that owns a port is the only one that has it.
use Rattle.std.proofs.Common.{◌≡◌, ℕ, ◌≤◌, List, ◌∷◌, ◌++◌, map, Some, sym, ◌∙◌, ap, subst}
use Rattle.std.specs.List.{AllByRecursion, sum_by}
use Rattle.nb_stack.specs.Bound.{owner_of}
use Rattle.nb_stack.specs.Client.{Client}
use Rattle.nb_teller.specs.Speakers.{carrier_number}
use Rattle.nb_network.specs.declared.living.Living.{Living}
use Rattle.nb_network.specs.Many.{AreRising, AreSound, HasOwnPort, Many, bound_port, lease_count_of}
use Rattle.nb_network.proofs.Lists.{all_map}
use Rattle.nb_network.proofs.Ports.{IsElsewhere, IsElsewhereOf, owned_by_one, stands_alone}

pub record HasAlone (proto number : ℕ) (before : List Living) (o : Living) (behind : List Living) : Type 0 where
  pub carrier : carrier_number o.speaker.carrier ≡ proto
  pub port : o.speaker.own_port ≡ number
  pub front : AllByRecursion (IsElsewhere proto number) before
  pub back : AllByRecursion (IsElsewhere proto number) behind

pub has_alone : (w opens : ℕ) (net : Client) (m : Many) (before : List Living) (o : Living) (behind : List Living) (proto number : ℕ) → AreSound w opens net m → m.list ≡ before ++ o ∷ behind → owner_of proto number net.ports ≡ Some o.speaker.number →
    HasAlone proto number before o behind
has_alone w opens net m before o behind proto number sound is owned =
    let alone = stands_alone w opens before o behind sound.opens_fit (subst (AreRising 0 opens) is sound.rising) (subst (AllByRecursion (HasOwnPort w)) is sound.own) (subst (λ os. sum_by lease_count_of os ≤ 1) is sound.one_lease) in
    let k = owned_by_one proto number before o behind alone.fronts alone.backs (sym (ap (owner_of proto number) (sound.ports ∙ ap (map bound_port) is)) ∙ owned) in
    let far : (p : Living) → IsElsewhereOf o p → IsElsewhere proto number p = λ p x f i. x (f ∙ sym k.0) (i ∙ sym k.1) in
    record {
      carrier = k.0;
      port = k.1;
      front = all_map (IsElsewhereOf o) (IsElsewhere proto number) before far alone.front;
      back = all_map (IsElsewhereOf o) (IsElsewhere proto number) behind far alone.back;
    }
