-- No command oversleeps: one that has its result doesn't, nor one that waits for an open, nor one whose time hasn't come.
use Rattle.std.proofs.Common.{◌≡◌, ℕ, ◌+◌, ◌*◌, ◌<◌, true, Some, List, sym, ◌∙◌, ap, subst, add-zero, refl}
use Rattle.nb_machine.specs.Effects.{Effect, sleeps, ShownWords}
use Rattle.nb_machine.specs.Errands.{Wanted}
use Rattle.nb_machine.specs.Queries.{Query}
use Rattle.nb_machine.specs.Lives.{Live}
use Rattle.nb_machine.specs.States.{State}
use Rattle.nb_machine.specs.Scripts.{Waiting}
use Rattle.nb_laws.specs.Events.{Event}
use Rattle.nb_laws.specs.Lists.{Opening, hardware, made}
use Rattle.nb_laws.specs.CommandsSoFar.{CommandsSoFar, so_far, comes_by, comes_after, ComesTo}
use Rattle.nb_laws.specs.Moves.{MovedOpen, moves}
use Rattle.nb_laws.specs.Progress.{NoneOversleeps}
use Rattle.nb_laws.proofs.Inquiries.{IsFetch, fetches_at_once, fetches_of_host, fetch_of, asks_some}
use Rattle.nb_laws.proofs.Afterwards.{after_by_words, sleeps_after}
use Rattle.nb_laws.proofs.Settling.{comes_sleeps, same_shown, same_seconds}
use Rattle.nb_laws.proofs.Stays.{IsAsking}
use Rattle.nb_openlaws.specs.Standings.{live_opening}
use Rattle.nb_lawful.specs.ScriptAgreement.{SleepsUntil, FetchesWith, AsksIn, AwaitsSo, awaits_time, awaits_file, awaits_query, awaits_host, awaits_drive, awaits_disk, awaits_block, awaits_hooked}
use Rattle.nb_lawful.proofs.NoBlocks.{words_boot_none}
use Rattle.std.proofs.lemmas.Option.{none-some}

-- a command sleeps by its words alone, however many opens were made
asleep_by_words : (k j : ℕ) (m : CommandsSoFar) (shown : ShownWords) (moved : List MovedOpen) (n : ℕ) → comes_after k m shown moved ≡ sleeps n → comes_by j m shown ≡ sleeps n
asleep_by_words k j m shown moved n is = comes_sleeps k j m shown n (after_by_words k m shown moved (sleeps n) (λ no. no) is)

-- one that asks for something doesn't
pub asking_rests : (es : List Event) (k : ℕ) (shown : ShownWords) → (so_far es).shown ≡ Some shown → IsAsking (comes_after k (so_far es) shown (moves es)) → NoneOversleeps es
asking_rests es k shown said asks = λ seconds still comes.
    let (other, is, sleeps_so) = comes in
    let same : other ≡ shown = same_shown (so_far es).shown other shown is said in
    let asleep : comes_by k (so_far es) shown ≡ sleeps seconds = asleep_by_words (made es) k (so_far es) shown (moves es) seconds (subst (λ x. comes_after (made es) (so_far es) x (moves es) ≡ sleeps seconds) same sleeps_so) in
    absurd (subst IsAsking (sleeps_after k k (so_far es) shown (moves es) seconds asleep) asks)

fetch_asks : (e : Effect) (o : Opening) (wanted : Wanted) → IsFetch e o wanted → IsAsking e
fetch_asks e o wanted (fetches_at_once is) = subst IsAsking (sym is) tt
fetch_asks e o wanted (fetches_of_host asking name by is same) = subst IsAsking (sym is) tt

fetch_rests : (es : List Event) (l : Live) (wanted : Wanted) → FetchesWith (hardware es) (so_far es) (moves es) l wanted → NoneOversleeps es
fetch_rests es l wanted a =
    let e = comes_after l.number (so_far es) a.shown (moves es) in
    asking_rests es l.number a.shown a.said (fetch_asks e (live_opening l) wanted (fetch_of e (live_opening l) wanted a.asked))

query_rests : (es : List Event) (l : Live) (query : Query) → AsksIn (hardware es) (so_far es) (moves es) l query → NoneOversleeps es
query_rests es l query a =
    let (q, is) = asks_some (comes_after l.number (so_far es) a.shown (moves es)) query a.asked in
    asking_rests es l.number a.shown a.said (subst IsAsking (sym is) tt)

-- a command that sleeps by its words oversleeps not
abbrev RestsBy : CommandsSoFar → ℕ → Type 0
RestsBy m opens = (seconds : ℕ) → m.is_open ≡ true → ((shown : ShownWords) × (m.shown ≡ Some shown) × (comes_by opens m shown ≡ sleeps seconds)) → m.now < m.since + 1000 * seconds

rests_by_words : (es : List Event) → RestsBy (so_far es) (made es) → NoneOversleeps es
rests_by_words es h = λ seconds still comes. let (shown, said, is) = comes in h seconds still (shown, said, asleep_by_words (made es) (made es) (so_far es) shown (moves es) seconds is)

words_rest : (es : List Event) → NoneOversleeps es → RestsBy (so_far es) (made es)
words_rest es h = λ seconds still comes. let (shown, said, is) = comes in h seconds still (shown, said, sleeps_after (made es) (made es) (so_far es) shown (moves es) seconds is)

sleep_rests : (es : List Event) (s : State) (until : ℕ) → made es ≡ s.opens → (so_far es).now ≡ s.now → SleepsUntil (so_far es) s until → NoneOversleeps es
sleep_rests es s until opens now a = rests_by_words es (λ seconds still comes.
    let (shown, is, sleeps_so) = comes in
    let same : shown ≡ a.shown = same_shown (so_far es).shown shown a.shown is a.is_shown in
    let here : comes_by s.opens (so_far es) a.shown ≡ sleeps seconds = subst (λ x. comes_by s.opens (so_far es) x ≡ sleeps seconds) same (subst (λ k. comes_by k (so_far es) shown ≡ sleeps seconds) opens sleeps_so) in
    let seconds_are : a.seconds ≡ seconds = same_seconds a.seconds seconds (sym a.sleeps_so ∙ here) in
    let due : until ≡ (so_far es).since + 1000 * seconds = a.until_is ∙ ap (λ n. (so_far es).since + 1000 * n) seconds_are in
    subst (λ t. t < (so_far es).since + 1000 * seconds) (sym now) (subst (λ u. s.now < u) due a.early))

pub waiting_rests : (es : List Event) (s : State) (w : Waiting) → made es ≡ s.opens → (so_far es).now ≡ s.now → AwaitsSo es s w → NoneOversleeps es
waiting_rests es s w opens now (awaits_time until at job none a) = sleep_rests es s until opens now a
waiting_rests es s w opens now (awaits_file l wanted at number job a) = fetch_rests es l wanted a
waiting_rests es s w opens now (awaits_query l query at number job a) = query_rests es l query a
waiting_rests es s w opens now (awaits_host l hooking at number job a gone) = asking_rests es l.number a.shown a.said (subst IsAsking (sym a.names) tt)
waiting_rests es s w opens now (awaits_drive l hooking at number job keeps a early gone) = asking_rests es l.number a.shown a.said (subst IsAsking (sym a.names) tt)
waiting_rests es s w opens now (awaits_disk l hooking keep at number job boots_it a was unasked early gone) = asking_rests es l.number a.shown a.said (subst IsAsking (sym a.names) tt)
waiting_rests es s w opens now (awaits_block l hooking keep at number job boots_it a known unread gone) = asking_rests es l.number a.shown a.said (subst IsAsking (sym a.names) tt)
waiting_rests es s w opens now (awaits_hooked l d b number job unread) = λ seconds still comes. absurd (none-some d (sym (words_boot_none es (made es) (sleeps seconds) refl comes) ∙ b.names))

-- and it is that command that sleeps
pub sleeping_comes : (es : List Event) (s : State) (until : ℕ) (a : SleepsUntil (so_far es) s until) → ComesTo es (made es) (sleeps a.seconds)
sleeping_comes es s until a = (a.shown, a.is_shown, sleeps_after s.opens (made es) (so_far es) a.shown (moves es) a.seconds a.sleeps_so)

-- it rests on where nothing was done and no time has passed
pub rests_on : (es es2 : List Event) → so_far es2 ≡ record (so_far es) { now = (so_far es).now + 0 } → made es2 ≡ made es → NoneOversleeps es → NoneOversleeps es2
rests_on es es2 same opens h =
    rests_by_words es2 (subst (λ m. RestsBy m (made es2)) (sym (same ∙ ap (λ t. record (so_far es) { now = t }) (add-zero (so_far es).now))) (subst (λ k. RestsBy (so_far es) k) (sym opens) (words_rest es h)))
