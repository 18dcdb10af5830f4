-- Objects that have no link are let go, one after the other.
use Rattle.std.proofs.Common.{inl, inr, ◌≡◌, ℕ, zero, suc, ◌<◌, ◌≤◌, true, false, List, [], ◌∷◌, refl, sym, ap, ◌∙◌, arith}
use Rattle.std.proofs.lemmas.Bool.{ne_eqb, false≢true}
use Rattle.nb_ledger.specs.declared.port.ObjId.{ObjId}
use Rattle.nb_ledger.specs.declared.port.PortState.{PortState}
use Rattle.nb_ledger.specs.declared.port.PortState.TheVariants as port
use Rattle.nb_ledger.specs.declared.event.GraphEvent.TheVariants.{LetGo}
use Rattle.nb_ledger.specs.Flat.{Heard}
use Rattle.nb_ledger.specs.GraphRun.{link_count}
use Rattle.nb_ledger.specs.Ledger.{holds, object_lives, port as port_in}
use Rattle.nb_graph.specs.Deeds.{Wants}
use Rattle.nb_graph.specs.Went.{WentOne}
use Rattle.nb_graph.specs.Whole.{Objects}
use Rattle.nb_frames.specs.Frames.{is_one_of, KeepsObject, KeepsOthers}
use Rattle.nb_frames.specs.Within.{IsEventWithin}
use Rattle.nb_nodes.specs.declared.obj.Obj.{Obj}
use Rattle.nb_nodes.specs.Objects.{obj_nature}
use Rattle.nb_nodes.specs.Standing.{ObjStands}
use Rattle.nb_opens.specs.AloneNotices.{alone_freed}
use Rattle.nb_chains.specs.Chains.{AreChained}
use Rattle.nb_chains.specs.Ends.{LivesUnlinked}
use Rattle.nb_chains.proofs.FreshOnes.{sole_is}
use Rattle.nb_chains.proofs.GivingLemmas.{gives_both, gives_more, gives_none, more_within}
use Rattle.nb_chains.proofs.GoingOn.{keeps_both}
use Rattle.nb_chains.proofs.LettingGo.{loose_kept}
use Rattle.nb_chains.proofs.LettingOneGo.{goes, goes_gives, goes_number, goes_others, is_gone}
use Rattle.nb_closings.specs.Chained.{IsShutThrough}
use Rattle.nb_closings.proofs.Beginning.{one_first}
use Rattle.nb_closings.proofs.Joining.{first_in, later_in}
use Rattle.nb_webchains.specs.declared.web_chain.WebChain.{WebChain}
use Rattle.nb_webchains.specs.Releases.{AreLoose}
use Rattle.nb_webchains.specs.WebCalls.{ReleasesEach, freed_each}
use Rattle.nb_webchains.specs.WebChains.{IsInOrder, IsShutWeb, web_ids}
use Rattle.nb_webchains.proofs.Lists.{not_fewer}
use Rattle.nb_webchains.proofs.Three.{fetch_in}

keeps_all : (g : Objects Obj) (y : ℕ) → KeepsObject g g y
keeps_all g y = record { live = refl; held = refl; ports = λ k. refl; ranked = refl; node = λ n e. e }

-- of none nothing is let go
pub releases_none : (g : Objects Obj) (m : Heard) → ReleasesEach [] g g m m
releases_none g m = record {
  gives = gives_none (IsEventWithin (is_one_of [])) g m;
  released = record {
    gone = λ x o. absurd (let z = o in cc);
    others = record { same_made = refl; others = λ y low far. keeps_all g y };
    number = omega arith;
    same_room = refl;
  };
}

-- one is let go, and then others
module _ (g a h : Objects Obj) (m n o : Heard) (x : ObjId) (xs : List ℕ) (far : is_one_of xs x.0 ≡ false) (loose : AreLoose (x.0 ∷ xs) g) (k : WentOne ObjStands obj_nature 0 (Wants (LetGo x) ∷ []) g a m n) where
  l : LivesUnlinked g x.0
  l = loose x.0 (first_in x.0 xs)

  one_others : KeepsOthers (is_one_of (x.0 ∷ [])) g a
  one_others = goes_others g a m n x l k

  apart : (y : ℕ) → is_one_of xs y ≡ true → y ≡ x.0 → ⊥
  apart y i e = false≢true (sym far ∙ (ap (is_one_of xs) (sym e) ∙ i))

  not_it : (y : ℕ) → (y ≡ x.0 → ⊥) → is_one_of (x.0 ∷ []) y ≡ false
  not_it y i = rw (ne_eqb y x.0 i) refl

  pub loose_then : AreLoose xs a
  loose_then y i =
      let was = loose y (later_in x.0 xs y i) in
      loose_kept g a y was (one_others.others y was.given (not_it y (apart y i))) one_others.same_made

  module _ (r : ReleasesEach xs a h n o) where
    sole_more : (y : ℕ) → is_one_of (x.0 ∷ []) y ≡ true → is_one_of (x.0 ∷ xs) y ≡ true
    sole_more y i = ap (is_one_of (x.0 ∷ xs)) (sole_is x.0 y i) ∙ first_in x.0 xs

    gone_each : (y : ℕ) → is_one_of (x.0 ∷ xs) y ≡ true → object_lives h.book y ≡ false
    gone_each y i = elim (one_first x.0 xs y i) [
      | inl e ↦ ap (object_lives h.book) e ∙ ((r.released.others.others x.0 (let e = one_others.same_made in let low = l.given in omega (arith, e, low)) far).live ∙ is_gone g a m n x l k)
      | inr w ↦ r.released.gone y w
    ]

    kept_each : (y : ℕ) → y ≤ g.book.made → is_one_of (x.0 ∷ xs) y ≡ false → KeepsObject g h y
    kept_each y low i =
        keeps_both g a h y (one_others.others y low (not_fewer (x.0 ∷ []) (x.0 ∷ xs) y (sole_more y) i))
        (r.released.others.others y (let e = one_others.same_made in omega (arith, e, low)) (not_fewer xs (x.0 ∷ xs) y (later_in x.0 xs y) i))

    pub releases_first : ReleasesEach (x.0 ∷ xs) g h m o
    releases_first =
        let own = IsEventWithin (is_one_of (x.0 ∷ xs)) in
        record {
          gives = gives_both own g a h m n o (alone_freed x.0) (freed_each xs)
              (gives_more (IsEventWithin (is_one_of (x.0 ∷ []))) own (λ e q. more_within (is_one_of (x.0 ∷ [])) (is_one_of (x.0 ∷ xs)) sole_more e q) g a m n (alone_freed x.0) (goes_gives g a m n x l k))
              (gives_more (IsEventWithin (is_one_of xs)) own (λ e q. more_within (is_one_of xs) (is_one_of (x.0 ∷ xs)) (later_in x.0 xs) e q) a h n o (freed_each xs) r.gives);
          released = record {
            gone = gone_each;
            others = record { same_made = r.released.others.same_made ∙ one_others.same_made; others = kept_each };
            number = let i = goes_number g a m n x l k in let j = r.released.number in omega (arith, i, j);
            same_room = r.released.same_room ∙ (goes g a m n x l k).room;
          };
        }

-- all three
module _ (c : WebChain) (order : IsInOrder c) (g a b h : Objects Obj) (m n o p : Heard) (loose : AreLoose (web_ids c) g) where
  fetch_far : is_one_of (c.web.0 ∷ c.conn.0 ∷ []) c.fetch.0 ≡ false
  fetch_far = rw (ne_eqb c.fetch.0 c.web.0 (λ e. let i = order.web_later in omega (arith, e, i)), ne_eqb c.fetch.0 c.conn.0 (λ e. let i = order.web_later in let j = order.conn_later in omega (arith, e, i, j))) refl

  web_far : is_one_of (c.conn.0 ∷ []) c.web.0 ≡ false
  web_far = rw (ne_eqb c.web.0 c.conn.0 (λ e. let j = order.conn_later in omega (arith, e, j))) refl

  -- the next one to go lives by its hold
  record MayGo (i : Objects Obj) (x : ℕ) : Type 0 where
    pub lives : object_lives i.book x ≡ true
    pub held : 0 < holds i.book x

  may_go : (ids : List ℕ) (i : Objects Obj) (x : ℕ) → AreLoose ids i → is_one_of ids x ≡ true → MayGo i x
  may_go ids i x l is = record { lives = (l x is).lives; held = let e = (l x is).held in omega (arith, e) }

  pub release_all : (object_lives g.book c.fetch.0 ≡ true → 0 < holds g.book c.fetch.0 → (now : ℕ) → WentOne ObjStands obj_nature now (Wants (LetGo c.fetch) ∷ []) g a m n)
      → (object_lives a.book c.web.0 ≡ true → 0 < holds a.book c.web.0 → (now : ℕ) → WentOne ObjStands obj_nature now (Wants (LetGo c.web) ∷ []) a b n o)
      → (object_lives b.book c.conn.0 ≡ true → 0 < holds b.book c.conn.0 → (now : ℕ) → WentOne ObjStands obj_nature now (Wants (LetGo c.conn) ∷ []) b h o p)
      → ReleasesEach (web_ids c) g h m p
  release_all first other last =
      let f = may_go (web_ids c) g c.fetch.0 loose (fetch_in c) in
      let one = first f.lives f.held 0 in
      let two_loose : AreLoose (c.web.0 ∷ c.conn.0 ∷ []) a = loose_then g a a m n n c.fetch (c.web.0 ∷ c.conn.0 ∷ []) fetch_far loose one in
      let w = may_go (c.web.0 ∷ c.conn.0 ∷ []) a c.web.0 two_loose (first_in c.web.0 (c.conn.0 ∷ [])) in
      let two = other w.lives w.held 0 in
      let one_loose : AreLoose (c.conn.0 ∷ []) b = loose_then a b b n o o c.web (c.conn.0 ∷ []) web_far two_loose two in
      let k = may_go (c.conn.0 ∷ []) b c.conn.0 one_loose (first_in c.conn.0 []) in
      let three = last k.lives k.held 0 in
      releases_first g a h m n p c.fetch (c.web.0 ∷ c.conn.0 ∷ []) fetch_far loose one
      (releases_first a b h n o p c.web (c.conn.0 ∷ []) web_far two_loose two
      (releases_first b h h o p p c.conn [] refl one_loose three (releases_none h p)))

-- WHERE ALL ARE SHUT

pub shut_at : (f : ℕ → ℕ → PortState) (ids : List ℕ) (x : ℕ) → IsShutThrough f ids → is_one_of ids x ≡ true → (f x 0 ≡ port.Closed) × (f x 1 ≡ port.Closed)
shut_at f [] x s i = absurd (let z = i in cc)
shut_at f (y ∷ ys) x s i = elim (one_first y ys x i) [
  | inl e ↦ (ap (λ w. f w 0) e ∙ s.0, ap (λ w. f w 1) e ∙ s.1)
  | inr o ↦ shut_at f ys x s.2 o
]

unlinked_at : (f : ℕ → ℕ → PortState) (x : ℕ) → f x 0 ≡ port.Closed → f x 1 ≡ port.Closed → ((k : ℕ) → 2 ≤ k → link_count (f x k) ≡ 0) → (k : ℕ) → link_count (f x k) ≡ 0
unlinked_at f x a b r zero = ap link_count a
unlinked_at f x a b r (suc zero) = ap link_count b
unlinked_at f x a b r (suc (suc k)) = r (suc (suc k)) (omega arith)

pub shut_loose : (c : WebChain) (g : Objects Obj) → AreChained g (web_ids c) → IsShutWeb c g → AreLoose (web_ids c) g
shut_loose c g chained s x o =
    let z = shut_at (port_in g.book) (web_ids c) x s.through.ports o in
    record {
      given = chained.given x o;
      lives = chained.lives x o;
      held = chained.held x o;
      unlinked = λ k lt. unlinked_at (port_in g.book) x z.0 z.1 (λ i low. s.through.loose x i o low) k;
      stands = chained.stands x o;
    }
