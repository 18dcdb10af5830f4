-- A port closed, and then those that come later, are closed in order.
use Rattle.nb_ledger.specs.Flat.{Heard}
use Rattle.std.proofs.Common.{◌≡◌, ℕ, ◌+◌, ◌<◌, ◌≤◌, inl, inr, false, List, [], ◌∷◌, ◌++◌, Option, refl, ap, sym, ◌∙◌, subst, append_assoc, arith}
use Rattle.std.proofs.lemmas.Bool.{cases_order}
use Rattle.nb_terms.specs.declared.cause.Cause.{Cause}
use Rattle.nb_ledger.specs.declared.port.ObjId.{ObjId}
use Rattle.nb_ledger.specs.declared.port.Port.{Port}
use Rattle.nb_ledger.specs.declared.event.GraphEvent.{GraphEvent}
use Rattle.nb_ledger.specs.declared.event.GraphEvent.TheVariants.{Closed, Entered, Freed, Left, LetGo, Unplugged}
use Rattle.nb_ledger.specs.declared.event.Way.TheVariants.{Close}
use Rattle.nb_ledger.specs.Ledger.{Ledger, port, open_count, object_lives}
use Rattle.nb_effects.specs.Whole.{IsQuiet, Runs}
use Rattle.nb_effects.specs.Calm.{Starts}
use Rattle.nb_effects.specs.Order.{IsFrom, ClosesInOrder, ClosesOnePort, LetsHoldsGo, EndsLink, ClosesOnce, linked, none, one, frees}
use Rattle.nb_effects.proofs.ShutLemmas.{no-object, no-slot}
use Rattle.nb_effects.proofs.RunsLemmas.{Agrees-quiet}
use Rattle.std.proofs.lemmas.List.{map-append}

-- from a later port on, where none between is open
pub order-from : (cause : Cause) (x k y j : ℕ) (l n : Ledger) (b d : Heard) → ((z i : ℕ) → IsFrom x k z i → 0 < open_count (port l z i) → IsFrom y j z i) → ((z i : ℕ) → IsFrom y j z i → IsFrom x k z i) → (ps : List Port) → ClosesInOrder cause y j l n b d ps → ClosesInOrder cause x k l n b d ps
order-from cause x k y j l n b d to back [] c = (λ z i f o. c.0 z i (to z i f o) o, c.1, c.2)
order-from cause x k y j l n b d to back (p ∷ ps) c = (
  c.0,
  c.1,
  record {
    from = back p.obj.0 p.slot c.2.from;
    opened = c.2.opened;
    first = λ z i f o. c.2.first z i (to z i f o) o;
  },
  c.3,
  c.4,
)

-- a port that isn't open is passed over
order-skip : (cause : Cause) (x k : ℕ) (l n : Ledger) (b d : Heard) → open_count (port l x k) ≡ 0 → (ps : List Port) → ClosesInOrder cause x (k + 1) l n b d ps → ClosesInOrder cause x k l n b d ps
order-skip cause x k l n b d h = order-from cause x k x (k + 1) l n b d to back
  where
    to : (z i : ℕ) → IsFrom x k z i → 0 < open_count (port l z i) → IsFrom x (k + 1) z i
    to z i (inl f) o = inl f
    to z i (inr f) o = elim (cases_order k i) [
      | inl e ↦ absurd (let s = h in let u = rw (← f.0, ← e) at o in omega arith)
      | inr q ↦ elim q [ inl a ↦ inr (f.0, omega arith) | inr a ↦ absurd (let s = f.1 in omega arith) ]
    ]

    back : (z i : ℕ) → IsFrom x (k + 1) z i → IsFrom x k z i
    back z i (inl f) = inl f
    back z i (inr f) = inr (f.0, let s = f.1 in omega arith)

-- a close of a link, of which these events come between its begin and its end
pub Shuts-link : {old new : Ledger} {before after : Heard} {p q : Port} {cause : Cause} (s : Starts old new before after (Closed p cause)) (nested : List GraphEvent) {es : List GraphEvent} → EndsLink p q es → s.rest ≡ Closed q cause ∷ Entered q Close ∷ (nested ++ es) → ClosesOnce old new before after p cause
Shuts-link {p = p} {q = q} {cause = cause} s nested {es} e h = record {
  starts = s;
  one = linked q (Closed q cause ∷ Entered q Close ∷ (nested ++ Left q ∷ [])) e.0 (ap (λ l. Closed p cause ∷ l) h ∙ ap (λ l. Closed p cause ∷ Closed q cause ∷ Entered q Close ∷ l) (ap (λ l. nested ++ l) e.1 ∙ sym (append_assoc nested (Left q ∷ []) (Unplugged p q ∷ frees e.0))));
}

-- where no entry runs
pub ClosesOne-shuts : {l m : Ledger} {b c : Heard} {p : Port} {cause : Cause} → IsQuiet l → ClosesOnce l m b c p cause → ClosesOnePort cause p l m b c
ClosesOne-shuts {l} {p = p} {cause = cause} q s = (Closed p cause ∷ s.starts.rest, record { told = s.starts.told; run = s.starts.run [] tt (Agrees-quiet l q) }, s.one)

-- the next port of an object, open or not
pub order-port : (cause : Cause) (p : Port) (l m n : Ledger) (b c d : Heard) → IsQuiet l → (0 < open_count (port l p.obj.0 p.slot) → ClosesOnce l m b c p cause) → (open_count (port l p.obj.0 p.slot) ≡ 0 → (m ≡ l) × (c ≡ b)) → (ps : List Port) → ClosesInOrder cause p.obj.0 (p.slot + 1) m n c d ps → (qs : List Port) × ClosesInOrder cause p.obj.0 p.slot l n b d qs
order-port cause p l m n b c d q shuts stays ps k = elim (cases_order (open_count (port l p.obj.0 p.slot)) 0) [
  | inl e ↦ let s = stays e in (ps, order-skip cause p.obj.0 p.slot l n b d e ps (rw (s.0, s.1) at k))
  | inr j ↦ elim j [
    | inl a ↦ absurd (omega arith)
    | inr a ↦ (p ∷ ps, (m, c, record { from = inr (refl, omega arith); opened = a; first = λ y i f o. f }, ClosesOne-shuts q (shuts a), k))
  ]
]

-- there is no slot past the third
pub order-object : (cause : Cause) (x : ℕ) (l n : Ledger) (b d : Heard) (ps : List Port) → ClosesInOrder cause (x + 1) 0 l n b d ps → ClosesInOrder cause x 4 l n b d ps
order-object cause x l n b d = order-from cause x 4 (x + 1) 0 l n b d to back
  where
    to : (z i : ℕ) → IsFrom x 4 z i → 0 < open_count (port l z i) → IsFrom (x + 1) 0 z i
    to z i (inl f) o = elim (cases_order z (x + 1)) [
      | inl e ↦ inr (sym e, omega arith)
      | inr q ↦ elim q [ inl a ↦ absurd (omega (arith, f)) | inr a ↦ inl a ]
    ]
    to z i (inr f) o = absurd (let s = no-slot l z i f.1 in omega arith)

    back : (z i : ℕ) → IsFrom (x + 1) 0 z i → IsFrom x 4 z i
    back z i (inl f) = inl (omega (arith, f))
    back z i (inr f) = inl (let e = f.0 in omega arith)

-- from the least live object on, and so from all above a serial on
pub order-above : (cause : Cause) (low x : ℕ) (l n : Ledger) (b d : Heard) → low < x → ((y : ℕ) → low < y → y < x → object_lives l y ≡ false) → (ps : List Port) → ClosesInOrder cause x 0 l n b d ps → ClosesInOrder cause (low + 1) 0 l n b d ps
order-above cause low x l n b d less dead = order-from cause (low + 1) 0 x 0 l n b d to back
  where
    above : (z i : ℕ) → IsFrom (low + 1) 0 z i → low < z
    above z i (inl f) = omega (arith, f)
    above z i (inr f) = let e = f.0 in omega arith

    to : (z i : ℕ) → IsFrom (low + 1) 0 z i → 0 < open_count (port l z i) → IsFrom x 0 z i
    to z i f o = elim (cases_order z x) [
      | inl e ↦ inr (sym e, omega arith)
      | inr q ↦ elim q [ inl a ↦ absurd (let s = no-object l z i (dead z (above z i f) a) in omega arith) | inr a ↦ inl a ]
    ]

    back : (z i : ℕ) → IsFrom x 0 z i → IsFrom (low + 1) 0 z i
    back z i f = elim (cases_order z (low + 1)) [
      | inl e ↦ inr (sym e, omega arith)
      | inr q ↦ elim q [ inl a ↦ absurd (let s = least z i f in omega arith) | inr a ↦ inl a ]
    ]
      where
        least : (z i : ℕ) → IsFrom x 0 z i → x ≤ z
        least z i (inl f) = omega (arith, f)
        least z i (inr f) = let e = f.0 in omega arith

-- no object lives above
pub order-none : (cause : Cause) (low : ℕ) (l : Ledger) (b : Heard) → ((y : ℕ) → low < y → object_lives l y ≡ false) → ClosesInOrder cause (low + 1) 0 l l b b []
order-none cause low l b dead = (λ z i f o. let s = no-object l z i (dead z (above z i f)) in absurd (omega arith), refl, refl)
  where
    above : (z i : ℕ) → IsFrom (low + 1) 0 z i → low < z
    above z i (inl f) = omega (arith, f)
    above z i (inr f) = let e = f.0 in omega arith

-- one list of letting go after the other
pub lets-append : (es fs : List GraphEvent) → LetsHoldsGo es → LetsHoldsGo fs → LetsHoldsGo (es ++ fs)
lets-append es fs none k = k
lets-append es fs (one x gone more h) k = subst LetsHoldsGo (ap (λ l. LetGo x ∷ l) (sym (append_assoc (frees gone) more fs))) (one x gone (more ++ fs) (lets-append more fs h k))

-- what two objects free
pub frees-append : (xs ys : List ObjId) → frees xs ++ frees ys ≡ frees (xs ++ ys)
frees-append xs ys = sym (map-append Freed xs ys)

-- one event, and what it frees
pub Runs-frees : {old new : Ledger} {before after : Heard} {e : GraphEvent} {es fs : List GraphEvent} → es ≡ fs → Runs old new before after (e ∷ es) → Runs old new before after (e ∷ fs)
Runs-frees {old} {new} {before} {after} {e} {es} {fs} h r = subst (λ l. Runs old new before after (e ∷ l)) h r
