-- What is read from the calls of a transfer, when one call more is made.
use Rattle.std.proofs.Common.{◌≡◌, ℕ, List, [], ◌∷◌, ◌++◌, Bool, true, false, ◌||◌, refl, ap, ◌∙◌, sym, subst, append_assoc}
use Rattle.std.specs.Prelude.{unwrap_or}
use Rattle.std.specs.Option.{is_some}
use Rattle.std.proofs.lemmas.List.{append-nil}
use Rattle.std.proofs.lemmas.List.Concat.{flat_map-append}
use Rattle.std.proofs.lemmas.List.Folds.{list_any-append}
use Rattle.std.proofs.lemmas.List.Sums.{fold-append}
use Rattle.nb_tftp.specs.History.{Entry, got, received_by, given, given_of, last_advance, is_ended, watched, watched_call, watch_from, EachEntry}

pub got-append : (h : List Entry) (e : Entry) → got (h ++ e ∷ []) ≡ got h ++ received_by e.call
got-append h e = flat_map-append (λ (x : Entry). received_by x.call) h (e ∷ []) ∙ ap (λ r. got h ++ r) (append-nil (received_by e.call))

pub given-append : (h : List Entry) (e : Entry) → given (h ++ e ∷ []) ≡ given h ++ given_of e.call e.acts.give
given-append h e = flat_map-append (λ (x : Entry). given_of x.call x.acts.give) h (e ∷ []) ∙ ap (λ r. given h ++ r) (append-nil (given_of e.call e.acts.give))

pub last_advance-append : (h : List Entry) (e : Entry) → last_advance (h ++ e ∷ []) ≡ unwrap_or e.acts.advance (last_advance h)
last_advance-append h e = fold-append (λ (last : ℕ) (x : Entry). unwrap_or x.acts.advance last) 0 h (e ∷ [])

or_off : (a b : Bool) → (a || (b || false)) ≡ (a || b)
or_off true b = refl
or_off false true = refl
or_off false false = refl

pub is_ended-append : (h : List Entry) (e : Entry) → is_ended (h ++ e ∷ []) ≡ (is_ended h || is_some e.acts.over)
is_ended-append h e = list_any-append (λ (x : Entry). is_some x.acts.over) h (e ∷ []) ∙ or_off (is_ended h) (is_some e.acts.over)

pub watched-append : (start : ℕ) (h : List Entry) (e : Entry) → watched start (h ++ e ∷ []) ≡ watched_call (watched start h) e.call e.acts
watched-append start h e = fold-append (λ w (x : Entry). watched_call w x.call x.acts) (watch_from start) h (e ∷ [])

pub EachEntry-append : (P : List Entry → Entry → Type 0) (before es : List Entry) (e : Entry) → EachEntry P before es → P (before ++ es) e → EachEntry P before (es ++ e ∷ [])
EachEntry-append P before [] e each last = (subst (λ (h : List Entry). P h e) (append-nil before) last, tt)
EachEntry-append P before (x ∷ es) e each last =
    (each.0, EachEntry-append P (before ++ x ∷ []) es e each.1 (subst (λ (h : List Entry). P h e) (sym (append_assoc before (x ∷ []) es)) last))
