-- An open begins, of which an object may have waited, or beside which another's waits then.
use Rattle.std.proofs.Common.{◌≡◌, inl, inr, refl, ℕ, ◌+◌, ◌<◌, ◌==◌, ◌||◌, true, false, List, [], ◌∷◌, Option, Some, None, sym, ◌∙◌, ap, subst, arith}
use Rattle.std.specs.List.{AllByRecursion}
use Rattle.std.proofs.lemmas.Bool.{eqb-true}
use Rattle.nb_terms.specs.declared.cause.Cause.{Cause}
use Rattle.nb_frames.specs.Frames.{is_one_of}
use Rattle.nb_graph.specs.Noded.{AreNoded}
use Rattle.nb_graph.specs.Whole.{Objects}
use Rattle.nb_ledger.specs.declared.port.ObjId.{ObjId}
use Rattle.nb_nodes.specs.declared.obj.Obj.{Obj}
use Rattle.nb_nodes.specs.Objects.{rank_of_obj}
use Rattle.nb_stack.specs.Client.{Client}
use Rattle.nb_machine.specs.Lives.{Live}
use Rattle.nb_chains.specs.declared.chain.Chain.{Chain}
use Rattle.nb_chains.specs.declared.kind.ChainKind.{ChainKind}
use Rattle.nb_chains.specs.declared.kind.ChainKind.TheVariants as chain
use Rattle.nb_chains.specs.Chains.{below_ids, chain_ids}
use Rattle.nb_teller.specs.Spelling.{Spelling}
use Rattle.nb_network.specs.declared.living.Living.{Living}
use Rattle.nb_open.specs.declared.opening.Opening.{Opening}
use Rattle.nb_open.specs.Begins.{BeginsBeside, BeginsOpen, IsLatest, SetsOutOr, waiting_pieces}
use Rattle.nb_open.specs.Objects.{objects_ids}
use Rattle.nb_open.specs.Open.{pieces_of}
use Rattle.nb_open.specs.Opening.{chain_kind, own_by}
use Rattle.nb_network.specs.Many.{AreSound, HasNoneTied, IsApartFrom, IsLivingOf, IsLivingOfSome, WaitsBeside, port_for, bare_open}
use Rattle.nb_network.specs.Openings.{EntersBy, OpensOne}
use Rattle.nb_network.proofs.Begun.{begun_first, number_is, begun_state, begun_traces}
use Rattle.nb_network.proofs.BegunSound.{begun_sound, begun_tied}
use Rattle.nb_network.proofs.Lists.{all_append, all_both}
use Rattle.nb_network.proofs.Ports.{either_test}
use Rattle.nb_network.proofs.Staying.{open_stays}
use Rattle.nb_network.proofs.Stepping.{top_first}
use Rattle.nb_network.specs.Drives.{drive_by}

-- what all of a list are, for whatever waits
all_under : (waits : Option Chain) (os : List Living) → ((c : Chain) → waits ≡ Some c → AllByRecursion (IsApartFrom (chain_ids c)) os) → AllByRecursion (λ p. (c : Chain) → waits ≡ Some c → IsApartFrom (chain_ids c) p) os
all_under waits [] h = tt
all_under waits (p ∷ os) h = (λ c e. (h c e).0, all_under waits os (λ c e. (h c e).1))

-- OF WHAT HAS WAITED

module _ (a : Opening) (number now : ℕ) (waits : Option Chain) (link : Client) (g h : Objects Obj) (list list' : List Living) (made told : Spelling) (o : Living) (ended : Option Cause) (kept : o.drive ≡ drive_by a) (x : BeginsOpen a number now waits link g h made told (record { «open» = bare_open o; ended = ended })) (noded : AreNoded rank_of_obj h) (latest : IsLatest waits g)
    (beside : (c : Chain) → waits ≡ Some c → WaitsBeside (chain_kind a) c (record { graph = g; list = list })) (net' : Client) (end : Option Cause) (same : end ≡ ended) (enters : EntersBy end o list link list' net') where
  far_one : (p : Living) → IsLivingOfSome g p → ((c : Chain) → waits ≡ Some c → IsApartFrom (chain_ids c) p) → IsApartFrom (objects_ids o.objects) p
  far_one p lives far y own =
      either_test (is_one_of (objects_ids o.objects) y)
      (λ t. absurd (let f = x.leaves.fresh y t (lives.1.chained.given y own) in
      let no : true ≡ false = sym (top_first f.0) ∙ ap (is_one_of (chain_ids f.0)) (sym f.2) ∙ far f.0 f.1 y own in cc))
      (λ f. f)

  far_all : AllByRecursion (IsLivingOfSome g) list → AllByRecursion (IsApartFrom (objects_ids o.objects)) list
  far_all lives = all_both (IsLivingOfSome g) (λ p. (c : Chain) → waits ≡ Some c → IsApartFrom (chain_ids c) p) (IsApartFrom (objects_ids o.objects)) list far_one lives (all_under waits list (λ c e. (beside c e).apart))

  stay : (p : Living) (l : Live) → IsApartFrom (objects_ids o.objects) p → IsLivingOf g p l → IsLivingOf h p l
  stay p l far i = open_stays g h p l noded (λ y own. x.leaves.others y (i.chained.given y own) (far y own)) x.leaves.later i

  sets : SetsOutOr end a number now link (bare_open o) x.mid h x.records
  sets = subst (λ z. SetsOutOr z a number now link (bare_open o) x.mid h x.records) (sym same) x.sets_out

  pub one_opens : (w : ℕ) → AreSound w number link (record { graph = g; list = list }) →
      OpensOne (record { graph = g; list = list }) link now number a (waiting_pieces (chain_kind a) waits) [] (record { graph = h; list = list' }) net' end made.text told.text
  one_opens w sound = record {
    made = x.makes.events;
    told = x.records;
    made_is = x.makes.text;
    told_is = x.text;
    first_put = begun_first a number now link o x.mid g h list list' net' x.records kept (far_all sound.lives) stay end sets;
    state = begun_state a number now link o x.mid g h list list' net' x.records kept (far_all sound.lives) stay end sets enters;
    tied = begun_tied end o number g h list list' link net' (number_is a number o x.speaker) enters;
    traces = begun_traces [] waits a number now link o x.speaker g list made x.mid x.makes latest (inl refl) end h x.records list' link net' sets enters;
  }

  pub one_sound : (w : ℕ) → AreSound w number link (record { graph = g; list = list }) → number < 16384 → own_by a ≡ port_for (chain_kind a) w number →
      (chain_kind a ≡ chain.Lease → HasNoneTied (record { graph = g; list = list })) → AreSound w (number + 1) net' (record { graph = h; list = list' })
  one_sound w sound = begun_sound a w number now link o x.speaker x.mid g h list list' net' x.records kept (far_all sound.lives) stay x.leaves.same_room end sets enters sound

-- BESIDE ANOTHER'S

module _ (kind : ChainKind) (a : Opening) (number now : ℕ) (link : Client) (g h : Objects Obj) (list list' : List Living) (made told : Spelling) (c : Chain) (o : Living) (ended : Option Cause) (kept : o.drive ≡ drive_by a) (x : BeginsBeside kind a number now link g h made told c (record { «open» = bare_open o; ended = ended })) (noded : AreNoded rank_of_obj h)
    (net' : Client) (end : Option Cause) (same : end ≡ ended) (enters : EntersBy end o list link list' net') where
  beside_one : (p : Living) → IsLivingOfSome g p → IsApartFrom (objects_ids o.objects) p
  beside_one p lives y own =
      either_test (is_one_of (objects_ids o.objects) y)
      (λ t. absurd (let low = lives.1.chained.given y own in let high = x.leaves.after y t in let first = x.leaves.first in omega (arith, low, high, first)))
      (λ f. f)

  beside_all : (os : List Living) → AllByRecursion (IsLivingOfSome g) os → AllByRecursion (IsApartFrom (objects_ids o.objects)) os
  beside_all [] lives = tt
  beside_all (p ∷ os) lives = (beside_one p lives.0, beside_all os lives.1)

  beside_stay : (p : Living) (l : Live) → IsApartFrom (objects_ids o.objects) p → IsLivingOf g p l → IsLivingOf h p l
  beside_stay p l far i = open_stays g h p l noded (λ y own. x.leaves.others y (i.chained.given y own)) x.leaves.later i

  beside_sets : SetsOutOr end a number now link (bare_open o) x.mid h x.records
  beside_sets = subst (λ z. SetsOutOr z a number now link (bare_open o) x.mid h x.records) (sym same) x.sets_out

  pub beside_opens : (w : ℕ) → AreSound w number link (record { graph = g; list = list }) →
      OpensOne (record { graph = g; list = list }) link now number a [] (pieces_of kind c) (record { graph = h; list = list' }) net' end made.text told.text
  beside_opens w sound = record {
    made = x.makes.events;
    told = x.records;
    made_is = x.makes.text;
    told_is = x.text;
    first_put = begun_first a number now link o x.mid g h list list' net' x.records kept (beside_all list sound.lives) beside_stay end beside_sets;
    state = begun_state a number now link o x.mid g h list list' net' x.records kept (beside_all list sound.lives) beside_stay end beside_sets enters;
    tied = begun_tied end o number g h list list' link net' (number_is a number o x.speaker) enters;
    traces = begun_traces (pieces_of kind c) None a number now link o x.speaker g list made x.mid x.makes tt (inr refl) end h x.records list' link net' beside_sets enters;
  }

  pub beside_sound : (w : ℕ) → AreSound w number link (record { graph = g; list = list }) → number < 16384 → own_by a ≡ port_for (chain_kind a) w number →
      (chain_kind a ≡ chain.Lease → HasNoneTied (record { graph = g; list = list })) → AreSound w (number + 1) net' (record { graph = h; list = list' })
  beside_sound w sound = begun_sound a w number now link o x.speaker x.mid g h list list' net' x.records kept (beside_all list sound.lives) beside_stay x.leaves.same_room end beside_sets enters sound

  -- what waits is apart from those before, and from the one that began
  one_of_top : (y : ℕ) → is_one_of (chain_ids c) y ≡ true → y ≡ c.top.0
  one_of_top y t = by (subst (λ (d : Option ObjId). is_one_of (c.top.0 ∷ below_ids d) y ≡ true) x.leaves.waits.alone t)
    where
      by : ((y == c.top.0) || false) ≡ true → y ≡ c.top.0
      by e = either_test (y == c.top.0) (λ f. eqb-true y c.top.0 f) (λ f. absurd (let no : false ≡ true = ap (λ z. z || false) (sym f) ∙ e in cc))

  waits_apart : (p : Living) → ((y : ℕ) → is_one_of (objects_ids p.objects) y ≡ true → y ≡ c.top.0 → ⊥) → IsApartFrom (chain_ids c) p
  waits_apart p differ y own = either_test (is_one_of (chain_ids c) y) (λ t. absurd (differ y own (one_of_top y t))) (λ f. f)

  waits_all : (os : List Living) → AllByRecursion (IsLivingOfSome g) os → AllByRecursion (IsApartFrom (chain_ids c)) os
  waits_all [] lives = tt
  waits_all (p ∷ os) lives =
      (waits_apart p (λ y own e. let low = lives.0.1.chained.given y own in let first = x.leaves.first in omega (arith, low, e, first)), waits_all os lives.1)

  waits_by : (e : Option Cause) → EntersBy e o list link list' net' → AllByRecursion (IsLivingOfSome g) list → AllByRecursion (IsApartFrom (chain_ids c)) list'
  waits_by None enter lives = subst (AllByRecursion (IsApartFrom (chain_ids c))) (sym enter.0) (all_append (IsApartFrom (chain_ids c)) list (o ∷ []) (waits_all list lives)
      (waits_apart o (λ y own e. let high = x.leaves.after y own in omega (arith, high, e)), tt))
  waits_by (Some cause) enter lives = subst (AllByRecursion (IsApartFrom (chain_ids c))) (sym enter.0) (waits_all list lives)

  pub beside_waits : AllByRecursion (IsLivingOfSome g) list → WaitsBeside kind c (record { graph = h; list = list' })
  beside_waits lives = record { waits = x.leaves.waits; apart = waits_by end enters lives }
