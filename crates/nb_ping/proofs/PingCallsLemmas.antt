-- What is read from the calls of a ping, when one call more is made.
use Rattle.std.proofs.Common.{◌≡◌, List, [], ◌∷◌, ◌++◌, Bool, true, false, ◌||◌, refl, ap, ◌∙◌, sym, subst, append_assoc}
use Rattle.std.specs.Option.{is_some}
use Rattle.std.proofs.lemmas.List.{append-nil}
use Rattle.std.proofs.lemmas.List.Concat.{flat_map-append}
use Rattle.std.proofs.lemmas.List.Folds.{list_any-append}
use Rattle.nb_ping.specs.Pings.{Pinged}
use Rattle.nb_ping.specs.PingCalls.{EchoReply, PingEntry, echo_replies, replies_of, ping_times, times_of_ping, ping_ended, EachPingEntry, answers_ping, is_answered}

pub echo_replies-append : (h : List PingEntry) (e : PingEntry) → echo_replies (h ++ e ∷ []) ≡ echo_replies h ++ replies_of e.call
echo_replies-append h e = flat_map-append (λ (x : PingEntry). replies_of x.call) h (e ∷ []) ∙ ap (λ r. echo_replies h ++ r) (append-nil (replies_of e.call))

pub ping_times-append : (h : List PingEntry) (e : PingEntry) → ping_times (h ++ e ∷ []) ≡ ping_times h ++ times_of_ping e.call e.acts
ping_times-append h e = flat_map-append (λ (x : PingEntry). times_of_ping x.call x.acts) h (e ∷ []) ∙ ap (λ r. ping_times h ++ r) (append-nil (times_of_ping e.call e.acts))

or_off : (a b : Bool) → (a || (b || false)) ≡ (a || b)
or_off true b = refl
or_off false true = refl
or_off false false = refl

pub ping_ended-append : (h : List PingEntry) (e : PingEntry) → ping_ended (h ++ e ∷ []) ≡ (ping_ended h || is_some e.acts.over)
ping_ended-append h e = list_any-append (λ (x : PingEntry). is_some x.acts.over) h (e ∷ []) ∙ or_off (ping_ended h) (is_some e.acts.over)

pub is_answered-append : (p : Pinged) (rs : List EchoReply) (r : EchoReply) → is_answered p (rs ++ r ∷ []) ≡ (is_answered p rs || answers_ping p r)
is_answered-append p rs r = list_any-append (answers_ping p) rs (r ∷ []) ∙ or_off (is_answered p rs) (answers_ping p r)

pub each-append : (P : List PingEntry → PingEntry → Type 0) (before es : List PingEntry) (e : PingEntry) → EachPingEntry P before es → P (before ++ es) e → EachPingEntry P before (es ++ e ∷ [])
each-append P before [] e each last = (subst (λ (h : List PingEntry). P h e) (append-nil before) last, tt)
each-append P before (x ∷ es) e each last =
    (each.0, each-append P (before ++ x ∷ []) es e each.1 (subst (λ (h : List PingEntry). P h e) (sym (append_assoc before (x ∷ []) es)) last))

pub each-last : (P : List PingEntry → PingEntry → Type 0) (before es : List PingEntry) (e : PingEntry) → EachPingEntry P before (es ++ e ∷ []) → P (before ++ es) e
each-last P before [] e each = subst (λ (h : List PingEntry). P h e) (sym (append-nil before)) each.0
each-last P before (x ∷ es) e each = subst (λ (h : List PingEntry). P h e) (append_assoc before (x ∷ []) es) (each-last P (before ++ x ∷ []) es e each.1)
