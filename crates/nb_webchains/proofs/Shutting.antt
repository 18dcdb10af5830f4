-- The end of a run: all ports of the three are closed, and they are let go.
use Rattle.std.proofs.Common.{inl, inr, ◌≡◌, ◌⊎◌, ◌<◌, ◌≤◌, ℕ, Bool, true, false, [], ◌∷◌, ◌++◌, ap, ◌∙◌, arith, nat_lt, refl}
use Rattle.std.proofs.lemmas.Bool.{cases_eq, ltb-true, ltb-false}
use Rattle.nb_terms.specs.declared.cause.Cause.{Cause}
use Rattle.nb_ledger.specs.Flat.{Heard}
use Rattle.nb_ledger.specs.Ledger.{open_count, port as port_in}
use Rattle.nb_graph.specs.Whole.{Objects}
use Rattle.nb_frames.specs.Frames.{is_one_of}
use Rattle.nb_frames.specs.Within.{IsEventWithin}
use Rattle.nb_nodes.specs.declared.obj.Obj.{Obj}
use Rattle.nb_chains.specs.Chains.{AreStillChained}
use Rattle.nb_chains.proofs.FreshOnes.{sole_is}
use Rattle.nb_chains.proofs.GivingLemmas.{gives_both}
use Rattle.nb_chains.proofs.GoingOn.{goes_both, others_both}
use Rattle.nb_closings.proofs.Beginning.{one_first}
use Rattle.nb_webchains.specs.declared.web_chain.WebChain.{WebChain}
use Rattle.nb_webchains.specs.Releases.{AreLoose, AreShutWhole, GoesLoose, StayLoose}
use Rattle.nb_webchains.specs.WebCalls.{ClosesWeb, ReleasesEach, ShutsWeb, freed_each}
use Rattle.nb_webchains.specs.WebChains.{AreReleased, IsInOrder, IsOpenWeb, IsShutWeb, web_ids}
use Rattle.nb_webchains.proofs.Loosening.{both_close}
use Rattle.nb_webchains.proofs.Releasing.{shut_at, shut_loose}

-- below a number, or not
below_or : (k n : ℕ) → (k < n) ⊎ (n ≤ k)
below_or k n = by (nat_lt k n) refl
  where
    by : (b : Bool) → nat_lt k n ≡ b → (k < n) ⊎ (n ≤ k)
    by true e = inl (ltb-true k n e)
    by false e = inr (ltb-false k n e)

-- what is released after it went on is released
released_after : (c : WebChain) (g a h : Objects Obj) → AreStillChained (web_ids c) g a → AreReleased (web_ids c) a h → AreReleased (web_ids c) g h
released_after c g a h on r = record {
  gone = r.gone;
  others = others_both (is_one_of (web_ids c)) g a h on.others r.others;
  number = r.number ∙ on.same_number;
  same_room = r.same_room ∙ on.same_room;
}

-- all ports are closed where those between the user and the network were, and then the others of each
module _ (c : WebChain) (a b d e : Objects Obj) (s : IsShutWeb c a) (one : StayLoose (web_ids c) c.fetch.0 a b) (two : StayLoose (web_ids c) c.web.0 b d) (three : StayLoose (web_ids c) c.conn.0 d e) where
  -- a port that was closed still is
  since_first : (x k : ℕ) → is_one_of (web_ids c) x ≡ true → open_count (port_in b.book x k) ≡ 0 → open_count (port_in e.book x k) ≡ 0
  since_first x k o z = three.still x k o (two.still x k o z)

  low_shut : (x k : ℕ) → is_one_of (web_ids c) x ≡ true → k < 2 → open_count (port_in e.book x k) ≡ 0
  low_shut x k o low =
      let z = shut_at (port_in a.book) (web_ids c) x s.through.ports o in
      since_first x k o (one.still x k o (elim (cases_eq k 0) [
        | inl i ↦ ap (λ j. open_count (port_in a.book x j)) i ∙ ap open_count z.0
        | inr i ↦ ap (λ j. open_count (port_in a.book x j)) (omega (arith, i, low)) ∙ ap open_count z.1
      ]))

  high_shut : (x k : ℕ) → is_one_of (web_ids c) x ≡ true → 2 ≤ k → k < 4 → open_count (port_in e.book x k) ≡ 0
  high_shut x k o low high = elim (one_first c.fetch.0 (c.web.0 ∷ c.conn.0 ∷ []) x o) [
    | inl i ↦ since_first x k o (ap (λ y. open_count (port_in b.book y k)) i ∙ one.slots k low high)
    | inr p ↦ elim (one_first c.web.0 (c.conn.0 ∷ []) x p) [
      | inl i ↦ three.still x k o (ap (λ y. open_count (port_in d.book y k)) i ∙ two.slots k low high)
      | inr q ↦ ap (λ y. open_count (port_in e.book y k)) (sole_is c.conn.0 x q) ∙ three.slots k low high
    ]
  ]

  pub all_shut : AreShutWhole (web_ids c) e
  all_shut x k o lt = elim (below_or k 2) [ inl low ↦ low_shut x k o low | inr high ↦ high_shut x k o high lt ]

module _ (c : WebChain) (g a b d e h : Objects Obj) (l m n o p q : Heard) (z : Cause) (on : AreStillChained (web_ids c) g a) (closes : ClosesWeb c g a z l m) (one : GoesLoose (web_ids c) c.fetch.0 a b m n)
    (two : GoesLoose (web_ids c) c.web.0 b d n o) (three : GoesLoose (web_ids c) c.conn.0 d e o p) (lets : IsInOrder c → AreLoose (web_ids c) e → ReleasesEach (web_ids c) e h p q) where
  pub shuts_web : IsOpenWeb c g → ShutsWeb c g h z l q
  shuts_web is =
      let own = IsEventWithin (is_one_of (web_ids c)) in
      let shut = closes.shut is in
      let i = one.loose (shut_loose c a on.chained shut) in
      let j = two.loose i.loose in
      let k = three.loose j.loose in
      let r = lets is.order k.loose in
      let goes = goes_both (web_ids c) g d e (goes_both (web_ids c) g b d (goes_both (web_ids c) g a b on one.on) two.on) three.on in
      let more = one.ns ++ (two.ns ++ three.ns) in
      let let_go = freed_each (web_ids c) in
      record {
        closed = a;
        heard = m;
        closes = closes;
        free = more;
        are = both_close one.ns (two.ns ++ three.ns) (one.closes (shut_loose c a on.chained shut)) (both_close two.ns three.ns (two.closes i.loose) (three.closes j.loose));
        mid = e;
        shut = all_shut c a b d e shut i j k;
        gives = gives_both own g a h l m q closes.ns (more ++ let_go) closes.gives
            (gives_both own a e h m p q more let_go (gives_both own a b e m n p one.ns (two.ns ++ three.ns) one.gives (gives_both own b d e n o p two.ns three.ns two.gives three.gives)) r.gives);
        released = released_after c g e h goes r.released;
      }
