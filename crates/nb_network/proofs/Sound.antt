-- What is sound stays so over another client with the same ports.
use Rattle.std.proofs.Common.{◌≡◌, ℕ, ◌≤◌, List, [], ◌∷◌, map, refl, sym, ◌∙◌, ap, subst, arith}
use Rattle.std.specs.List.{AllByRecursion, sum_by}
use Rattle.nb_graph.specs.Whole.{Objects}
use Rattle.nb_nodes.specs.declared.obj.Obj.{Obj}
use Rattle.nb_machine.specs.Lives.{Live}
use Rattle.nb_stack.specs.Brings.{Brought, arp_message}
use Rattle.nb_stack.specs.Client.{Client}
use Rattle.nb_stack.specs.Takes.{client_after}
use Rattle.nb_network.specs.declared.living.Living.{Living}
use Rattle.nb_network.specs.Many.{AreApart, AreOpensOf, AreRising, AreSound, HasOwnPort, IsLivingOfSome, Many, bound_port, lease_count_of, most_objects}

pub sound_over : (w opens : ℕ) (net net' : Client) (m : Many) → net'.ports ≡ net.ports → AreSound w opens net m → AreSound w opens net' m
sound_over w opens net net' m ports s = record {
  w_fits = s.w_fits;
  opens_fit = s.opens_fit;
  ports = ports ∙ s.ports;
  rising = s.rising;
  own = s.own;
  one_lease = s.one_lease;
  lives = s.lives;
  apart = s.apart;
  room = s.room;
}

pub ports_after : (net : Client) (m : Brought) → (client_after net m).ports ≡ net.ports
ports_after net (arp_message from arp) = refl
ports_after net m = refl

-- where no open lives
pub sound_none : (w : ℕ) (net : Client) (m : Many) → w ≤ 16383 → net.ports ≡ [] → m.list ≡ [] → m.graph.book.room ≡ most_objects → AreSound w 0 net m
sound_none w net m fits ports none room = record {
  w_fits = fits;
  opens_fit = omega arith;
  ports = ports ∙ ap (map bound_port) (sym none);
  rising = subst (AreRising 0 0) (sym none) tt;
  own = subst (AllByRecursion (HasOwnPort w)) (sym none) tt;
  one_lease = subst (λ os. sum_by lease_count_of os ≤ 1) (sym none) (omega arith);
  lives = subst (AllByRecursion (IsLivingOfSome m.graph)) (sym none) tt;
  apart = subst AreApart (sym none) tt;
  room = room;
}

-- those of the machine that live, where each of ours does
pub some_live : (g : Objects Obj) (os : List Living) → AllByRecursion (IsLivingOfSome g) os → (ls : List Live) × AreOpensOf g os ls
some_live g [] lives = ([], tt)
some_live g (o ∷ os) lives = let more = some_live g os lives.1 in (lives.0.0 ∷ more.0, (lives.0.1, more.1))
