-- What is read from the calls of a look-up, when one call more is made.
use Rattle.std.proofs.Common.{◌≡◌, not, eqb, List, [], ◌∷◌, ◌++◌, Bool, true, false, ◌||◌, inl, inr, refl, ap, ◌∙◌, sym, subst, append_assoc}
use Rattle.std.specs.Option.{is_some}
use Rattle.std.proofs.lemmas.Bool.{eqb-true}
use Rattle.std.proofs.lemmas.List.{append-nil}
use Rattle.std.proofs.lemmas.List.Concat.{flat_map-append}
use Rattle.std.proofs.lemmas.List.Folds.{list_any-append}
use Rattle.nb_wire.specs.declared.address.Ip4.{Ip4}
use Rattle.nb_dnsmsg.specs.Messages.{ip4}
use Rattle.nb_dnsmsg.specs.declared.answer.Answer.{Answer}
use Rattle.nb_dnsmsg.proofs.MessageLemmas.{answer_one}
use Rattle.nb_dns.specs.Lookups.{Lookup}
use Rattle.nb_dns.specs.LookupCalls.{DnsDatagram, LookupEntry, datagrams, lookup_datagrams, lookup_times, times_of_lookup, lookup_ended, EachLookupEntry, IsReplyTo, IsNoReply, IsSilentCall, FirstReply}

pub datagrams-append : (h : List LookupEntry) (e : LookupEntry) → datagrams (h ++ e ∷ []) ≡ datagrams h ++ lookup_datagrams e.call
datagrams-append h e = flat_map-append (λ (x : LookupEntry). lookup_datagrams x.call) h (e ∷ []) ∙ ap (λ r. datagrams h ++ r) (append-nil (lookup_datagrams e.call))

pub lookup_times-append : (h : List LookupEntry) (e : LookupEntry) → lookup_times (h ++ e ∷ []) ≡ lookup_times h ++ times_of_lookup e.call e.acts
lookup_times-append h e = flat_map-append (λ (x : LookupEntry). times_of_lookup x.call x.acts) h (e ∷ []) ∙ ap (λ r. lookup_times h ++ r) (append-nil (times_of_lookup e.call e.acts))

or_off : (a b : Bool) → (a || (b || false)) ≡ (a || b)
or_off true b = refl
or_off false true = refl
or_off false false = refl

pub lookup_ended-append : (h : List LookupEntry) (e : LookupEntry) → lookup_ended (h ++ e ∷ []) ≡ (lookup_ended h || is_some e.acts.over)
lookup_ended-append h e = list_any-append (λ (x : LookupEntry). is_some x.acts.over) h (e ∷ []) ∙ or_off (lookup_ended h) (is_some e.acts.over)

pub each-append : (P : List LookupEntry → LookupEntry → Type 0) (before es : List LookupEntry) (e : LookupEntry) → EachLookupEntry P before es → P (before ++ es) e → EachLookupEntry P before (es ++ e ∷ [])
each-append P before [] e each last = (subst (λ (h : List LookupEntry). P h e) (append-nil before) last, tt)
each-append P before (x ∷ es) e each last =
    (each.0, each-append P (before ++ x ∷ []) es e each.1 (subst (λ (h : List LookupEntry). P h e) (sym (append_assoc before (x ∷ []) es)) last))

pub each-last : (P : List LookupEntry → LookupEntry → Type 0) (before es : List LookupEntry) (e : LookupEntry) → EachLookupEntry P before (es ++ e ∷ []) → P (before ++ es) e
each-last P before [] e each = subst (λ (h : List LookupEntry). P h e) (sym (append-nil before)) each.0
each-last P before (x ∷ es) e each = subst (λ (h : List LookupEntry). P h e) (append_assoc before (x ∷ []) es) (each-last P (before ++ x ∷ []) es e each.1)

pub silent-append : (l : Lookup) (ms : List DnsDatagram) (m : DnsDatagram) → IsSilentCall l ms → IsNoReply l m → IsSilentCall l (ms ++ m ∷ [])
silent-append l [] m silent none = (none, tt)
silent-append l (x ∷ ms) m (first, silent) none = (first, silent-append l ms m silent none)

pub silent-last : (l : Lookup) (ms : List DnsDatagram) (m : DnsDatagram) → IsSilentCall l (ms ++ m ∷ []) → IsNoReply l m
silent-last l [] m (none, rest) = none
silent-last l (x ∷ ms) m (first, silent) = silent-last l ms m silent

pub no_first : (l : Lookup) (ms : List DnsDatagram) (a : Answer) → IsSilentCall l ms → FirstReply l ms a → ⊥
no_first l [] a silent first = first
no_first l (m ∷ ms) a (none, silent) (inl is) = none a is
no_first l (m ∷ ms) a (none, silent) (inr (not_this, first)) = no_first l ms a silent first

-- a datagram has one answer
pub reply_one : (l : Lookup) (m : DnsDatagram) (a b : Answer) → IsReplyTo l m a → IsReplyTo l m b → a ≡ b
reply_one l m a b p q = answer_one m.body l.id l.name a b p.answers q.answers

-- the first reply is the last datagram, where those before it are none
pub first_is_last : (l : Lookup) (ms : List DnsDatagram) (m : DnsDatagram) (a b : Answer) → IsSilentCall l ms → IsReplyTo l m a → FirstReply l (ms ++ m ∷ []) b → b ≡ a
first_is_last l [] m a b silent is (inl this) = reply_one l m b a this is
first_is_last l [] m a b silent is (inr (none, first)) = absurd first
first_is_last l (x ∷ ms) m a b (none, silent) is (inl this) = absurd (none b this)
first_is_last l (x ∷ ms) m a b (none, silent) is (inr (other, first)) = first_is_last l ms m a b silent is first

unnegated : (x : Bool) → not x ≡ false → x ≡ true
unnegated true is = refl
unnegated false is = sym is

-- addresses that aren't found to differ are one
pub same_address : (a b : Ip4) (differ : Bool) → differ ≡ not (eqb a.0 b.0) → differ ≡ false → a ≡ b
same_address a b differ is off = ap ip4 (eqb-true a.0 b.0 (unnegated (eqb a.0 b.0) (sym is ∙ off)))
