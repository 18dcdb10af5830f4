-- What is read from the calls of a connection, when one call more is made.
use Rattle.std.proofs.Common.{◌≡◌, ℕ, List, [], ◌∷◌, ◌++◌, Bool, true, false, ◌||◌, refl, ap, ◌∙◌, sym, subst, append_assoc}
use Rattle.std.specs.Prelude.{unwrap_or, fold}
use Rattle.std.proofs.lemmas.List.{append-nil}
use Rattle.std.proofs.lemmas.List.Concat.{flat_map-append}
use Rattle.std.proofs.lemmas.List.Folds.{list_any-append}
use Rattle.std.proofs.lemmas.List.Sums.{fold-append}
use Rattle.nb_streams.specs.Flows.{TcpCall, ConnPhase, asking, conn_phase, after_tcp_call}
use Rattle.nb_streams.specs.Trying.{TryTimer, timer_since, timer_by, timer_from, timer_after}
use Rattle.nb_retry.specs.declared.plan.Plan.TheVariants.{Common}
use Rattle.nb_tcp.specs.ConnHistory.{ConnEntry, tcp_calls_of, tcp_calls, advanced_to, delivered_by, delivered, waits_after, is_waiting_after, lent_after, is_lent_after, ends_by, has_ended_after, EachConnEntry}

pub calls-append : (h : List ConnEntry) (e : ConnEntry) → tcp_calls (h ++ e ∷ []) ≡ tcp_calls h ++ tcp_calls_of e.call
calls-append h e = flat_map-append (λ (x : ConnEntry). tcp_calls_of x.call) h (e ∷ []) ∙ ap (λ r. tcp_calls h ++ r) (append-nil (tcp_calls_of e.call))

pub delivered-append : (h : List ConnEntry) (e : ConnEntry) → delivered (h ++ e ∷ []) ≡ delivered h ++ delivered_by e.call
delivered-append h e = flat_map-append (λ (x : ConnEntry). delivered_by x.call) h (e ∷ []) ∙ ap (λ r. delivered h ++ r) (append-nil (delivered_by e.call))

pub advanced-append : (h : List ConnEntry) (e : ConnEntry) → advanced_to (h ++ e ∷ []) ≡ unwrap_or e.acts.advance (advanced_to h)
advanced-append h e = fold-append (λ (last : ℕ) (x : ConnEntry). unwrap_or x.acts.advance last) 0 h (e ∷ [])

pub waiting-append : (h : List ConnEntry) (e : ConnEntry) → is_waiting_after (h ++ e ∷ []) ≡ waits_after (is_waiting_after h) e.call e.acts
waiting-append h e = fold-append (λ (w : Bool) (x : ConnEntry). waits_after w x.call x.acts) false h (e ∷ [])

pub lent-append : (h : List ConnEntry) (e : ConnEntry) → is_lent_after (h ++ e ∷ []) ≡ lent_after (is_lent_after h) e.call
lent-append h e = fold-append (λ (l : Bool) (x : ConnEntry). lent_after l x.call) false h (e ∷ [])

or_off : (a b : Bool) → (a || (b || false)) ≡ (a || b)
or_off true b = refl
or_off false true = refl
or_off false false = refl

pub ended-append : (h : List ConnEntry) (e : ConnEntry) → has_ended_after (h ++ e ∷ []) ≡ (has_ended_after h || ends_by e)
ended-append h e = list_any-append ends_by h (e ∷ []) ∙ or_off (has_ended_after h) (ends_by e)

pub EachConnEntry-append : (P : List ConnEntry → ConnEntry → Type 0) (before es : List ConnEntry) (e : ConnEntry) → EachConnEntry P before es → P (before ++ es) e → EachConnEntry P before (es ++ e ∷ [])
EachConnEntry-append P before [] e each last = (subst (λ (h : List ConnEntry). P h e) (append-nil before) last, tt)
EachConnEntry-append P before (x ∷ es) e each last =
    (each.0, EachConnEntry-append P (before ++ x ∷ []) es e each.1 (subst (λ (h : List ConnEntry). P h e) (sym (append_assoc before (x ∷ []) es)) last))

-- the connection and its timer after one call more
pub phase-append : (isn : ℕ) (cs : List TcpCall) (c : TcpCall) → conn_phase isn (cs ++ c ∷ []) ≡ after_tcp_call isn (conn_phase isn cs) c
unfolding conn_phase
phase-append isn cs c = fold-append (after_tcp_call isn) (asking []) cs (c ∷ [])

from-append : (isn : ℕ) (p : ConnPhase) (w : TryTimer) (cs : List TcpCall) (c : TcpCall) → timer_from isn p w (cs ++ c ∷ []) ≡ timer_by isn (fold (after_tcp_call isn) p cs) c (timer_from isn p w cs)
from-append isn p w [] c = refl
from-append isn p w (x ∷ cs) c = from-append isn (after_tcp_call isn p x) (timer_by isn p x w) cs c

pub timer-append : (isn start : ℕ) (cs : List TcpCall) (c : TcpCall) → timer_after isn start (cs ++ c ∷ []) ≡ timer_by isn (conn_phase isn cs) c (timer_after isn start cs)
unfolding timer_after conn_phase
timer-append isn start cs c = from-append isn (asking []) (timer_since Common start) cs c
