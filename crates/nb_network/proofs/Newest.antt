-- Beside what waits, an open's own objects alone are newer.
use Rattle.std.proofs.Common.{◌≡◌, inl, inr, ℕ, ◌+◌, ◌<◌, ◌≤◌, ◌||◌, true, false, List, [], ◌∷◌, ◌++◌, length, Option, Some, None, refl, sym, ◌∙◌, ap, subst, arith}
use Rattle.std.specs.List.{AllByRecursion}
use Rattle.std.proofs.lemmas.Bool.{cases_eq, eq-eqb, false≢true}
use Rattle.nb_terms.specs.declared.cause.Cause.{Cause}
use Rattle.nb_frames.specs.Frames.{is_one_of}
use Rattle.nb_graph.specs.Whole.{Objects}
use Rattle.nb_ledger.specs.Ledger.{object_lives, run_state}
use Rattle.nb_ledger.specs.GraphRun.{GraphState, GraphRunOf}
use Rattle.nb_ledger.specs.declared.event.GraphEvent.{GraphEvent}
use Rattle.nb_ledger.specs.declared.event.GraphEvent.TheVariants.{Made, Held, LetGo, Plugged, Entered, Left, Dropped, Closed, Unplugged, Freed}
use Rattle.nb_nodes.specs.declared.obj.Obj.{Obj}
use Rattle.nb_stack.specs.Client.{Client}
use Rattle.nb_chains.specs.declared.chain.Chain.{Chain}
use Rattle.nb_chains.specs.declared.kind.ChainKind.{ChainKind}
use Rattle.nb_chains.specs.Kinds.{top_number}
use Rattle.nb_teller.specs.Spelling.{Spelling}
use Rattle.nb_traced.specs.Holdings.{GraphObject, lowest_of, serials}
use Rattle.nb_traced.specs.Outputs.{CallsOpen, own_serials}
use Rattle.nb_traced.specs.Pieces.{IsMaking, pieces_made}
use Rattle.nb_traced.proofs.Serials.{AreRising, one_later}
use Rattle.nb_traced.proofs.StateLemmas.{making, run_leaves}
use Rattle.nb_network.specs.declared.living.Living.{Living}
use Rattle.nb_open.specs.declared.opening.Opening.{Opening}
use Rattle.nb_open.specs.Begins.{BeginsBeside, SetsOutOr}
use Rattle.nb_open.specs.declared.objects.OpenObjects.{OpenObjects}
use Rattle.nb_open.specs.declared.objects.OpenObjects.TheVariants as objects
use Rattle.nb_open.specs.Objects.{objects_ids}
use Rattle.nb_open.specs.Open.{objects_pieces, pieces_below}
use Rattle.nb_network.specs.Many.{IsNewestBut, IsOfNumber, kin_of, bare_open}
use Rattle.nb_network.specs.Openings.{EntersBy, number_by}
use Rattle.nb_network.proofs.Begun.{number_is}
use Rattle.nb_network.proofs.Lists.{all_map}
use Rattle.nb_network.proofs.Ports.{either_test}
use Rattle.nb_network.proofs.Traces.{own_are}

-- so many serials are given as objects are made
made_count : (es : List GraphEvent) (s t : GraphState) → AllByRecursion IsMaking es → GraphRunOf s es t → t.made ≡ s.made + length (pieces_made es)
made_count [] s t w r = let e : t.made ≡ s.made = sym (ap (λ (z : GraphState). z.made) r) in omega (arith, e)
made_count (Made x kind ∷ es) s t w (mid, k, r) =
    let next : x.0 ≡ s.made + 1 = k.1 in
    let is : mid.made ≡ x.0 = ap (λ (z : GraphState). z.made) k.2 in
    let rest = made_count es mid t w.1 r in
    omega (arith, next, is, rest)
made_count (Held x ∷ es) s t w (mid, k, r) = let is : mid.made ≡ s.made = ap (λ (z : GraphState). z.made) k.2 in let rest = made_count es mid t w.1 r in omega (arith, is, rest)
made_count (Plugged p q ∷ es) s t w (mid, k, r) = let is : mid.made ≡ s.made = ap (λ (z : GraphState). z.made) k.5 in let rest = made_count es mid t w.1 r in omega (arith, is, rest)
made_count (LetGo x ∷ es) s t w r = absurd w.0
made_count (Entered p b ∷ es) s t w r = absurd w.0
made_count (Left p ∷ es) s t w r = absurd w.0
made_count (Dropped p ∷ es) s t w r = absurd w.0
made_count (Closed p cause ∷ es) s t w r = absurd w.0
made_count (Unplugged p q ∷ es) s t w r = absurd w.0
made_count (Freed x ∷ es) s t w r = absurd w.0

-- serials that rise up to one: so many are above the first
room_above : (q : GraphObject) (qs : List GraphObject) (n : ℕ) → AreRising (q ∷ qs) → AllByRecursion (λ r. r.serial ≤ n) (q ∷ qs) → q.serial + length qs ≤ n
room_above q [] n rising upto = let a = upto.0 in omega (arith, a)
room_above q (r ∷ rs) n rising upto = let a = room_above r rs n rising.1 upto.1 in let b = rising.0.0 in omega (arith, a, b)

-- Of objects with the next serials, one after the other: no other serial above the first of them is as low as the last.
none_between : (p : GraphObject) (ps : List GraphObject) (m n y : ℕ) → AllByRecursion (λ q. m < q.serial) (p ∷ ps) → AreRising (p ∷ ps) → AllByRecursion (λ q. q.serial ≤ n) (p ∷ ps) → n ≡ m + length (p ∷ ps) →
    y ≤ lowest_of (serials (p ∷ ps)) → is_one_of (serials ps) y ≡ false → y ≤ p.serial
none_between p [] m n y above rising upto count low out = low
none_between p (q ∷ qs) m n y above rising upto count low out =
    let first = above.0 in
    let room = room_above q qs n rising.1 upto.1 in
    let under = none_between q qs (m + 1) n y (all_map (λ r. p.serial < r.serial) (λ r. m + 1 < r.serial) (q ∷ qs) (λ r i. omega (arith, i, first)) rising.0) rising.1 upto.1 (omega (arith, count)) low (either_test (is_one_of (serials qs) y) (λ t. absurd (false≢true (sym out ∙ one_later q.serial y (serials qs) t))) (λ f. f)) in
    let other : y ≡ q.serial → ⊥ = λ e. false≢true (sym out ∙ ap (λ b. b || is_one_of (serials qs) y) (eq-eqb y q.serial e)) in
    elim (cases_eq y q.serial) [ inl e ↦ absurd (other e) | inr e ↦ omega (arith, first, room, under, e, count) ]

-- an object before others isn't the lowest
lowest_after : (x : ℕ) (os : OpenObjects) → lowest_of (serials (objects_pieces os)) ≡ lowest_of (x ∷ serials (objects_pieces os))
lowest_after x (objects.Chain kind chain) = refl
lowest_after x (objects.Web port own chain) = refl
lowest_after x (objects.Drive port own chain) = refl

of_last : (k y : ℕ) (os : List Living) (o : Living) → o.speaker.number ≡ k → is_one_of (objects_ids o.objects) y ≡ true → IsOfNumber k y (os ++ o ∷ [])
of_last k y [] o n own = inl (n, own)
of_last k y (p ∷ os) o n own = inr (of_last k y os o n own)

module _ (kind : ChainKind) (a : Opening) (number now : ℕ) (link : Client) (g h : Objects Obj) (list list' : List Living) (made told : Spelling) (c : Chain) (o : Living) (ended : Option Cause) (x : BeginsBeside kind a number now link g h made told c (record { «open» = bare_open o; ended = ended }))
    (net' : Client) (end : Option Cause) (same : end ≡ ended) (enters : EntersBy end o list link list' net') where
  abbrev first : GraphObject
  first = record { serial = c.top.0; kind = top_number kind }

  pieces : pieces_made x.makes.events ≡ first ∷ objects_pieces o.objects
  pieces = sym x.makes.pieces ∙ ap (λ d. (first ∷ pieces_below d) ++ objects_pieces o.objects) x.leaves.waits.alone

  -- no other object that lives is newer than what waits
  not_newer : CallsOpen (kin_of o) None x.records x.mid (run_state h.book []) → (y : ℕ) → object_lives h.book y ≡ true → is_one_of (objects_ids o.objects) y ≡ false → y ≤ c.top.0
  not_newer call y live out =
      let own = own_serials (kin_of o) in
      let are : own ≡ objects_ids o.objects = own_are o in
      let left = run_leaves (is_one_of own) call.events x.mid (run_state h.book []) call.within call.run in
      let lived : x.mid.live y ≡ true = sym (left.live y (ap (λ z. is_one_of z y) are ∙ out)) ∙ live in
      let m = making x.makes.events (run_state g.book []) x.mid x.makes.makes x.makes.run in
      let count = made_count x.makes.events (run_state g.book []) x.mid x.makes.makes x.makes.run ∙ ap (λ z. g.book.made + length z) pieces in
      none_between first (objects_pieces o.objects) g.book.made x.mid.made y (subst (AllByRecursion (λ q. g.book.made < q.serial)) pieces m.new) (subst AreRising pieces m.rising) (subst (AllByRecursion (λ q. q.serial ≤ x.mid.made)) pieces m.below) count
      (subst (λ z. y ≤ z) (lowest_after c.top.0 o.objects) (x.makes.newest tt y lived)) (ap (λ z. is_one_of z y) are ∙ out)

  newest_by : (e : Option Cause) → EntersBy e o list link list' net' → SetsOutOr e a number now link (bare_open o) x.mid h x.records → IsNewestBut (number_by e number) c (record { graph = h; list = list' })
  newest_by None enter sets = λ y live.
      either_test (is_one_of (objects_ids o.objects) y)
      (λ t. inl (subst (IsOfNumber number y) (sym enter.0) (of_last number y list o (number_is a number o x.speaker) t)))
      (λ f. inr (not_newer sets.call y live f))
  newest_by (Some cause) enter sets = λ y live.
      either_test (is_one_of (objects_ids o.objects) y)
      (λ t. absurd (let no : true ≡ false = sym live ∙ sets.1.gone y (ap (λ z. is_one_of z y) (own_are o) ∙ t) in cc))
      (λ f. not_newer sets.1.call y live f)

  pub beside_newest : IsNewestBut (number_by end number) c (record { graph = h; list = list' })
  beside_newest = newest_by end enters (subst (λ z. SetsOutOr z a number now link (bare_open o) x.mid h x.records) (sym same) x.sets_out)
