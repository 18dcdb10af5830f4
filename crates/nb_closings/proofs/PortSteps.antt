-- One thing happens to a port: it is closed alone, with its peer, or as its peer was, or its link is unplugged.
use Rattle.std.proofs.Common.{inl, inr, ◌≡◌, ◌⊎◌, ℕ, ◌<◌, Bool, true, false, List, [], ◌∷◌, ◌++◌, refl, sym, ap, ◌∙◌, subst, arith}
use Rattle.std.specs.List.{AllByRecursion}
use Rattle.nb_terms.specs.declared.cause.Cause.{Cause}
use Rattle.nb_ledger.specs.declared.port.Port.{Port}
use Rattle.nb_ledger.specs.declared.port.PortState.{PortState}
use Rattle.nb_ledger.specs.declared.port.PortState.TheVariants as port
use Rattle.nb_ledger.specs.declared.event.GraphEvent.TheVariants.{Closed, Unplugged}
use Rattle.nb_ledger.specs.GraphRun.{link_count, port_but}
use Rattle.nb_ledger.specs.Ledger.{open_count}
use Rattle.nb_graph.specs.Scene.{Scene, shut_of, state_at, after_noted}
use Rattle.nb_graph.specs.Trace.{NodeEntry}
use Rattle.nb_frames.specs.Frames.{is_one_of}
use Rattle.nb_closings.specs.Passing.{object_has_ended}
use Rattle.nb_closings.proofs.Joining.{Joins, IsInner, joins_back, joins_inner}
use Rattle.nb_closings.proofs.PlanLemmas.{AnyPlan, IsBut, at_it, elsewhere, is_but, but_there, Plan, WillClose, WillTell, WillUnplug, close_it, shut_it, unplug_them, tell_it, nothing}
use Rattle.nb_closings.proofs.Keeping.{AllFit, Fits, IsClosedAt, IsGone, IsOn, Kept, Moves, Traces, all_fit_on, moves}

shut_closed : (v : PortState) → open_count (shut_of v) ≡ 0
shut_closed port.Open = refl
shut_closed (port.Linked q) = refl
shut_closed (port.Leaving q) = refl
shut_closed port.Closed = refl

shut_loose : (v : PortState) → link_count v ≡ 0 → link_count (shut_of v) ≡ 0
shut_loose port.Open h = refl
shut_loose (port.Linked q) h = h
shut_loose (port.Leaving q) h = h
shut_loose port.Closed h = refl

module _ (s : Scene) (p : Port) (c : Cause) where
  abbrev after_close : Scene
  after_close = after_noted (Closed p c) s

  pub closes_there : IsClosedAt after_close p
  closes_there = ap open_count (but_there p (shut_of (state_at s p)) s.port) ∙ shut_closed (state_at s p)

  -- a port that is closed then is this one, or was
  pub closed_or_was : (a : Port) → IsClosedAt after_close a → (a ≡ p) ⊎ IsClosedAt s a
  closed_or_was a h = elim (is_but p (shut_of (state_at s p)) s.port a) [ at_it e i ↦ inl e | elsewhere i ↦ inr (sym (ap open_count i) ∙ h) ]

  pub stays_closed : (a : Port) → IsClosedAt s a → IsClosedAt after_close a
  stays_closed a h = elim (is_but p (shut_of (state_at s p)) s.port a) [ at_it e i ↦ ap open_count i ∙ shut_closed (state_at s p) | elsewhere i ↦ ap open_count i ∙ h ]

  same_or_closed : (a : Port) → (state_at after_close a ≡ state_at s a) ⊎ IsClosedAt after_close a
  same_or_closed a = elim (is_but p (shut_of (state_at s p)) s.port a) [ at_it e i ↦ inr (ap open_count i ∙ shut_closed (state_at s p)) | elsewhere i ↦ inl i ]

  loose_after : (a : Port) → link_count (state_at s a) ≡ 0 → link_count (state_at after_close a) ≡ 0
  loose_after a h = elim (is_but p (shut_of (state_at s p)) s.port a) [
    | at_it e i ↦ ap link_count i ∙ shut_loose (state_at s p) (ap (λ (x : Port). link_count (state_at s x)) (sym e) ∙ h)
    | elsewhere i ↦ ap link_count i ∙ h
  ]

  -- one that leaves then is this one, which was linked or left, or left before
  leaving_or_was : (a q : Port) → state_at after_close a ≡ port.Leaving q → ((a ≡ p) × (shut_of (state_at s p) ≡ port.Leaving q)) ⊎ (state_at s a ≡ port.Leaving q)
  leaving_or_was a q h = elim (is_but p (shut_of (state_at s p)) s.port a) [ at_it e i ↦ inl (e, sym i ∙ h) | elsewhere i ↦ inr (sym i ∙ h) ]

  gone_still : (a b : List Port) → ((r : Port) → IsOn r a → IsClosedAt after_close r ⊎ IsOn r b) → (r : Port) → IsGone s a r → IsGone after_close b r
  gone_still a b f r (inl h) = inl (stays_closed r h)
  gone_still a b f r (inr h) = f r h

not_open : (v : PortState) (q : Port) → v ≡ port.Open → v ≡ port.Linked q → ⊥
not_open v q e i = let z = sym e ∙ i in cc

not_shut : (v : PortState) → v ≡ port.Open → open_count v ≡ 0 → ⊥
not_shut v e h = let z = sym (ap open_count e) ∙ h in cc

linked_not_shut : (v : PortState) (q : Port) → v ≡ port.Linked q → open_count v ≡ 0 → ⊥
linked_not_shut v q e h = let z = sym (ap open_count e) ∙ h in cc

module _ (ids : List ℕ) (Exempt : ℕ → Type 0) (Aim : Port → Type 0) (s : Scene) (tr : Traces) (vs : List Plan) where
  -- an object whose port is closed as it asked to has ended, or it needn't hear of that
  ended_or_exempt : (p : Port) → Fits ids Exempt Aim s tr [] vs (close_it p) → (object_has_ended (tr p.obj.0) ≡ true) ⊎ (AnyPlan (WillTell p.obj.0) [] ⊎ Exempt p.obj.0)
  ended_or_exempt p (inl h) = inl h
  ended_or_exempt p (inr h) = inr (inr h.0)

  -- the same of another port that is this one, with more that is to be done
  told_as : (p a : Port) (Q : Type 0) → a ≡ p → (object_has_ended (tr p.obj.0) ≡ true) ⊎ (AnyPlan (WillTell p.obj.0) [] ⊎ Exempt p.obj.0) → (object_has_ended (tr a.obj.0) ≡ true) ⊎ (Q ⊎ Exempt a.obj.0)
  told_as p a Q e (inl h) = inl (ap (λ (x : Port). object_has_ended (tr x.obj.0)) e ∙ h)
  told_as p a Q e (inr (inl h)) = absurd h
  told_as p a Q e (inr (inr h)) = inr (inr (subst (λ (x : Port). Exempt x.obj.0) (sym e) h))

  pub closed_alone : (p : Port) (c : Cause) → state_at s p ≡ port.Open → Kept ids Exempt Aim s tr (close_it p ∷ vs) → Kept ids Exempt Aim (after_noted (Closed p c) s) tr vs
  closed_alone p c is k =
      moves ids Exempt Aim s (after_noted (Closed p c) s) tr tr (close_it p) [] vs
      (record {
        fits = all_fit_on ids Exempt Aim s (after_noted (Closed p c) s) tr tr [] [] vs (gone_still s p c [] [] (λ r h. absurd h)) (λ x h. h) k.fits.1;
        shut = stays_closed s p c;
        same = same_or_closed s p c;
        loose = loose_after s p c;
        ended = λ x h. h;
        leaving = λ a q i l. elim (leaving_or_was s p c a q l) [
          | inl w ↦ absurd (let z = sym (ap shut_of is) ∙ w.1 in cc)
          | inr w ↦ inl (w, (λ h. h))
        ];
        closed = λ a e. subst (IsClosedAt (after_noted (Closed p c) s)) e (closes_there s p c);
        heard = λ x h. absurd h;
        both = λ a q j h. elim (closed_or_was s p c a h) [
          | inl e ↦ elim (k.joined a q j) [ inl l ↦ absurd (not_open (state_at s p) q is (ap (state_at s) (sym e) ∙ l)) | inr w ↦ inl w ]
          | inr w ↦ inl w
        ];
        told = λ a i h. elim (closed_or_was s p c a h) [
          | inl e ↦ inr (told_as p a ⊥ e (ended_or_exempt p k.fits.0))
          | inr w ↦ inl w
        ];
        over = λ a i h. inl h;
      }) k

  pub closed_link : (p r : Port) (c : Cause) → is_one_of ids p.obj.0 ≡ true → state_at s p ≡ port.Linked r → Kept ids Exempt Aim s tr (close_it p ∷ vs)
      → Kept ids Exempt Aim (after_noted (Closed p c) s) tr (shut_it r ∷ (unplug_them p r ∷ vs))
  closed_link p r c own is k =
      let t = after_noted (Closed p c) s in
      moves ids Exempt Aim s t tr tr (close_it p) (shut_it r ∷ (unplug_them p r ∷ [])) vs
      (record {
        fits = (
          (p, k.only p r own is, inl (closes_there s p c), inl (inr refl)),
          (
            (inl (closes_there s p c), inr (inl refl)),
            all_fit_on ids Exempt Aim s t tr tr [] (r ∷ []) vs (gone_still s p c [] (r ∷ []) (λ q h. absurd h)) (λ x h. h) k.fits.1,
          ),
        );
        shut = stays_closed s p c;
        same = same_or_closed s p c;
        loose = loose_after s p c;
        ended = λ x h. h;
        leaving = λ a q i l. elim (leaving_or_was s p c a q l) [ inl w ↦ inr (inr (inl (inl (sym w.0)))) | inr w ↦ inl (w, (λ h. h)) ];
        closed = λ a e. subst (IsClosedAt t) e (closes_there s p c);
        heard = λ x h. absurd h;
        both = λ a q j h. elim (closed_or_was s p c a h) [
          | inl e ↦ elim (k.joined a q j) [
            | inl l ↦ inr (inr (inl (let z : port.Linked r ≡ port.Linked q = sym is ∙ (ap (state_at s) (sym e) ∙ l) in cc)))
            | inr w ↦ inl w
          ]
          | inr w ↦ inl w
        ];
        told = λ a i h. elim (closed_or_was s p c a h) [
          | inl e ↦ inr (told_as p a (AnyPlan (WillTell a.obj.0) (shut_it r ∷ (unplug_them p r ∷ []))) e (ended_or_exempt p k.fits.0))
          | inr w ↦ inl w
        ];
        over = λ a i h. inl h;
      }) k

  -- one was closed already
  pub closed_before : (p : Port) → IsClosedAt s p → Kept ids Exempt Aim s tr (close_it p ∷ vs) → Kept ids Exempt Aim s tr vs
  closed_before p is k =
      moves ids Exempt Aim s s tr tr (close_it p) [] vs
      (record {
        fits = k.fits.1;
        shut = λ a h. h;
        same = λ a. inl refl;
        loose = λ a h. h;
        ended = λ x h. h;
        leaving = λ a q i l. inl (l, (λ h. h));
        closed = λ a e. subst (IsClosedAt s) e is;
        heard = λ x h. absurd h;
        both = λ a q j h. inl h;
        told = λ a i h. inl h;
        over = λ a i h. inl h;
      }) k

  -- a port is closed as its peer was
  peer_both : (p a q : Port) (c : Cause) → Kept ids Exempt Aim s tr (shut_it p ∷ vs) → Joins ids p a → Joins ids p q → IsClosedAt s a → IsClosedAt s p ⊎ IsClosedAt (after_noted (Closed p c) s) q
  peer_both p a q c k j i h = elim (k.joined p a j) [
    | inr w ↦ inl w
    | inl l ↦ elim (k.joined p q i) [ inr w ↦ inl w | inl m ↦ inr (stays_closed s p c q (subst (IsClosedAt s) (let z : port.Linked a ≡ port.Linked q = sym l ∙ m in cc) h)) ]
  ]

  pub closed_peer : (p : Port) (c : Cause) → Kept ids Exempt Aim s tr (shut_it p ∷ vs) → Kept ids Exempt Aim (after_noted (Closed p c) s) tr (tell_it p ∷ vs)
  closed_peer p c k =
      let t = after_noted (Closed p c) s in
      let a = k.fits.0.0 in
      let joined = joins_back ids a p k.fits.0.1 in
      moves ids Exempt Aim s t tr tr (shut_it p) (tell_it p ∷ []) vs
      (record {
        fits = (inl (closes_there s p c), all_fit_on ids Exempt Aim s t tr tr (p ∷ []) [] vs (gone_still s p c (p ∷ []) [] (λ q h. elim h [ inl e ↦ inl (subst (IsClosedAt t) (sym e) (closes_there s p c)) | inr w ↦ absurd w ])) (λ x h. h) k.fits.1);
        shut = stays_closed s p c;
        same = same_or_closed s p c;
        loose = loose_after s p c;
        ended = λ x h. h;
        leaving = λ b q i l. elim (leaving_or_was s p c b q l) [ inl w ↦ inr (inr (subst (λ (x : Port). AnyPlan (WillUnplug x) vs) (sym w.0) k.fits.0.3)) | inr w ↦ inl (w, (λ h. h)) ];
        closed = λ b e. subst (IsClosedAt t) e (closes_there s p c);
        heard = λ x h. absurd h;
        both = λ b q j h. elim (closed_or_was s p c b h) [
          | inl e ↦ elim k.fits.0.2 [
            | inl w ↦ elim (peer_both p a q c k joined (subst (λ (x : Port). Joins ids x q) e j) w) [ inl y ↦ inl (subst (IsClosedAt s) (sym e) y) | inr y ↦ inr (inl y) ]
            | inr w ↦ absurd w
          ]
          | inr w ↦ inl w
        ];
        told = λ b i h. elim (closed_or_was s p c b h) [ inl e ↦ inr (inr (inl (inl (ap (λ (x : Port). x.obj.0) (sym e), subst (λ (x : Port). x.slot < 2) e i.low)))) | inr w ↦ inl w ];
        over = λ b i h. inl h;
      }) k

  -- a link of two closed ports is unplugged
  pub is_gone : (q : Port) → IsGone s [] q → IsClosedAt s q
  is_gone q (inl h) = h
  is_gone q (inr h) = absurd h

  module _ (p q : Port) where
    abbrev after_unplug : Scene
    after_unplug = after_noted (Unplugged p q) s

    abbrev first_shut : ℕ → ℕ → PortState
    first_shut = port_but p port.Closed s.port

    -- each port is as it was, or one of these, and closed
    data AfterIt (a : Port) : Type 0 where
      one_of_them : (p ≡ a) ⊎ (q ≡ a) → state_at after_unplug a ≡ port.Closed → AfterIt a
      as_it_was : state_at after_unplug a ≡ state_at s a → AfterIt a

    after_it : (a : Port) → AfterIt a
    after_it a = elim (is_but q port.Closed first_shut a) [
      | at_it e i ↦ one_of_them (inr (sym e)) i
      | elsewhere i ↦ elim (is_but p port.Closed s.port a) [ at_it e j ↦ one_of_them (inl (sym e)) (i ∙ j) | elsewhere j ↦ as_it_was (i ∙ j) ]
    ]

    pub unplug_shuts : (a : Port) → IsClosedAt s a → IsClosedAt after_unplug a
    unplug_shuts a h = elim (after_it a) [ one_of_them o e ↦ ap open_count e | as_it_was e ↦ ap open_count e ∙ h ]

    pub shut_before : (a : Port) → IsClosedAt s p → IsClosedAt s q → IsClosedAt after_unplug a → IsClosedAt s a
    shut_before a h i w = elim (after_it a) [
      | one_of_them o e ↦ elim o [ inl z ↦ subst (IsClosedAt s) z h | inr z ↦ subst (IsClosedAt s) z i ]
      | as_it_was e ↦ sym (ap open_count e) ∙ w
    ]

    shut_here : (a : Port) → (p ≡ a) ⊎ (q ≡ a) → state_at after_unplug a ≡ port.Closed
    shut_here a (inr e) = subst (λ (x : Port). state_at after_unplug x ≡ port.Closed) e (but_there q port.Closed first_shut)
    shut_here a (inl e) = elim (after_it a) [
      | one_of_them o i ↦ i
      | as_it_was i ↦ elim (is_but q port.Closed first_shut a) [
        | at_it z j ↦ j
        | elsewhere j ↦ j ∙ subst (λ (x : Port). first_shut x.obj.0 x.slot ≡ port.Closed) e (but_there p port.Closed s.port)
      ]
    ]

    leaving_before : (a r : Port) → state_at after_unplug a ≡ port.Leaving r → (state_at s a ≡ port.Leaving r) × (WillUnplug a (unplug_them p q) → ⊥)
    leaving_before a r l = (
      elim (after_it a) [ one_of_them o e ↦ absurd (let z = sym e ∙ l in cc) | as_it_was e ↦ sym e ∙ l ],
      (λ o. let z = sym (shut_here a o) ∙ l in cc),
    )

    pub unplugged : Kept ids Exempt Aim s tr (unplug_them p q ∷ vs) → Kept ids Exempt Aim after_unplug tr vs
    unplugged k =
        let h = is_gone p k.fits.0.0 in
        let i = is_gone q k.fits.0.1 in
        moves ids Exempt Aim s after_unplug tr tr (unplug_them p q) [] vs
        (record {
          fits = all_fit_on ids Exempt Aim s after_unplug tr tr [] [] vs (λ a g. inl (unplug_shuts a (is_gone a g))) (λ x w. w) k.fits.1;
          shut = unplug_shuts;
          same = λ a. elim (after_it a) [ one_of_them o e ↦ inr (ap open_count e) | as_it_was e ↦ inl e ];
          loose = λ a w. elim (after_it a) [ one_of_them o e ↦ ap link_count e | as_it_was e ↦ ap link_count e ∙ w ];
          ended = λ x w. w;
          leaving = λ a r j l. inl (leaving_before a r l);
          closed = λ a w. absurd w;
          heard = λ x w. absurd w;
          both = λ a r j w. inl (shut_before a h i w);
          told = λ a j w. inl (shut_before a h i w);
          over = λ a j w. inl w;
        }) k
