-- The messages of the texts that came to a connection, as its promise says.
use Rattle.std.proofs.Common.{◌≡◌, ℕ, List, [], ◌∷◌, ◌++◌, refl, sym, ap, ◌∙◌, subst, append_assoc, append-nil}
use Rattle.nb_graph.specs.Trace.{Said}
use Rattle.nb_streams.specs.Flows.{TcpCall, conn_phase, segment_came, text_came, time_came}
use Rattle.nb_streams.specs.Sending.{text_calls_for}
use Rattle.nb_tcp.specs.declared.link.Link.{Link}
use Rattle.nb_tcp.specs.ConnHistory.{ConnCall, ConnEntry, EachConnEntry, calls_in, closes_from_above, comes_back, lends_out, tcp_calls, tcp_calls_of}
use Rattle.nb_tcp.specs.ConnPromises.{AsksAsPromised, IsAskedSo}
use Rattle.nb_tcp.proofs.ConnHistoryLemmas.{calls-append}
use Rattle.nb_conns.specs.ConnEffects.{downs_for}
use Rattle.nb_talks.specs.Talking.{text_calls}
use Rattle.nb_webtalks.specs.Comings.{sends_say}
use Rattle.nb_drivetalks.specs.Comings.{texts_say}
use Rattle.nb_drivetalks.proofs.Talks.{text_told, texts_told}

-- what calls bring to be sent, by those before them
abbrev call_says : Link → ℕ → List TcpCall → TcpCall → List Said
call_says l rec calls (segment_came m now) = []
call_says l rec calls (time_came now) = []
call_says l rec calls (text_came bytes now) = sends_say l rec (text_calls_for (conn_phase l.isn calls) bytes)

abbrev calls_say : Link → ℕ → List TcpCall → List TcpCall → List Said
calls_say l rec calls [] = []
calls_say l rec calls (t ∷ ts) = call_says l rec calls t ++ calls_say l rec (calls ++ t ∷ []) ts

-- an entry, by what it was asked
entry_says : (l : Link) (start rec : ℕ) (before : List ConnEntry) (e : ConnEntry) (call : ConnCall) → IsAskedSo l start before e call → text_told rec call e.acts ≡ calls_say l rec (tcp_calls before) (tcp_calls_of call)
entry_says l start rec before e (calls_in (segment_came m now)) so = refl
entry_says l start rec before e (calls_in (time_came now)) so = refl
entry_says l start rec before e (calls_in (text_came bytes now)) so = ap (downs_for rec) so.0 ∙ sym (append-nil (sends_say l rec (text_calls_for (conn_phase l.isn (tcp_calls before)) bytes)))
entry_says l start rec before e (lends_out bytes) so = refl
entry_says l start rec before e comes_back so = refl
entry_says l start rec before e closes_from_above so = refl

calls_both : (l : Link) (rec : ℕ) (calls xs ys : List TcpCall) → calls_say l rec calls (xs ++ ys) ≡ calls_say l rec calls xs ++ calls_say l rec (calls ++ xs) ys
calls_both l rec calls [] ys = ap (λ z. calls_say l rec z ys) (sym (append-nil calls))
calls_both l rec calls (t ∷ xs) ys =
    ap (λ z. call_says l rec calls t ++ z) (calls_both l rec (calls ++ t ∷ []) xs ys ∙ ap (λ z. calls_say l rec (calls ++ t ∷ []) xs ++ calls_say l rec z ys) (append_assoc calls (t ∷ []) xs))
    ∙ sym (append_assoc (call_says l rec calls t) (calls_say l rec (calls ++ t ∷ []) xs) (calls_say l rec (calls ++ t ∷ xs) ys))

told_says : (l : Link) (start rec : ℕ) (before more : List ConnEntry) → EachConnEntry (AsksAsPromised l start) before more → texts_told rec more ≡ calls_say l rec (tcp_calls before) (tcp_calls more)
told_says l start rec before [] each = refl
told_says l start rec before (e ∷ more) each =
    ap (λ z. z ++ texts_told rec more) (entry_says l start rec before e e.call each.0)
    ∙ ap (λ z. calls_say l rec (tcp_calls before) (tcp_calls_of e.call) ++ z) (told_says l start rec (before ++ e ∷ []) more each.1 ∙ ap (λ z. calls_say l rec z (tcp_calls more)) (calls-append before e))
    ∙ sym (calls_both l rec (tcp_calls before) (tcp_calls_of e.call) (tcp_calls more))

-- texts that are given one after another
given_says : (l : Link) (rec now : ℕ) (xs : List (List ℕ)) (calls : List TcpCall) → calls_say l rec calls (text_calls xs now) ≡ texts_say l rec calls xs now
given_says l rec now [] calls = refl
given_says l rec now ([] ∷ xs) calls = given_says l rec now xs calls ∙ ap (λ z. texts_say l rec z xs now) (sym (append-nil calls))
given_says l rec now ((b ∷ bytes) ∷ xs) calls = ap (λ z. sends_say l rec (text_calls_for (conn_phase l.isn calls) (b ∷ bytes)) ++ z) (given_says l rec now xs (calls ++ text_came (b ∷ bytes) now ∷ []))

pub texts_so : (l : Link) (start rec now : ℕ) (before more : List ConnEntry) (calls : List TcpCall) (xs : List (List ℕ)) → EachConnEntry (AsksAsPromised l start) before more → tcp_calls before ≡ calls → tcp_calls more ≡ text_calls xs now
    → texts_told rec more ≡ texts_say l rec calls xs now
texts_so l start rec now before more calls xs each was is =
    told_says l start rec before more each ∙ ap (λ z. calls_say l rec z (tcp_calls more)) was ∙ ap (calls_say l rec calls) is ∙ given_says l rec now xs calls

-- those of some entries among all
pub each_behind : (P : List ConnEntry → ConnEntry → Type 0) (before es more : List ConnEntry) → EachConnEntry P before (es ++ more) → EachConnEntry P (before ++ es) more
each_behind P before [] more each = subst (λ z. EachConnEntry P z more) (sym (append-nil before)) each
each_behind P before (e ∷ es) more each = subst (λ z. EachConnEntry P z more) (append_assoc before (e ∷ []) es) (each_behind P (before ++ e ∷ []) es more each.1)

pub each_before : (P : List ConnEntry → ConnEntry → Type 0) (before es more : List ConnEntry) → EachConnEntry P before (es ++ more) → EachConnEntry P before es
each_before P before [] more each = tt
each_before P before (e ∷ es) more each = (each.0, each_before P (before ++ e ∷ []) es more each.1)
