-- Why a transfer's open has ended.
use Rattle.std.proofs.Common.{◌≡◌, ℕ, ◌==◌, ◌||◌, true, false, List, [], ◌∷◌, ◌++◌, length, Option, Some, refl, sym, ◌∙◌, ap, subst, append_assoc, append-nil, arith}
use Rattle.std.specs.List.{flat_map, list_any}
use Rattle.std.specs.Option.{option_map_or, is_some}
use Rattle.std.proofs.lemmas.Bool.{ltb-true}
use Rattle.nb_retry.specs.Plans.{first_from}
use Rattle.nb_terms.specs.declared.cause.Cause.{Cause}
use Rattle.nb_defs.specs.Causes.{is_ok_cause}
use Rattle.nb_tftp.specs.Received.{fixed_port}
use Rattle.nb_tftp.specs.Blocks.{count, is_whole_transfer, file}
use Rattle.nb_tftp.specs.History.{Call, came, ticked, Entry, got, is_ended, received_by, Watch, watched, watched_call, EachEntry}
use Rattle.nb_tftp.specs.Sentences.{Meets, OkWhereWhole, answers, IsUnanswered}
use Rattle.nb_tftp.specs.Endings as told
use Rattle.nb_tftp.specs.Endings.{Ending, RanOut, IsFull, moments}
use Rattle.nb_tftp.proofs.EndLaws.{ends_as_told}
use Rattle.nb_tftp.proofs.PlainLaws.{EachEntry-last}
use Rattle.nb_tftp.proofs.LimitLaws.{most_of_calls}
use Rattle.nb_tftp.proofs.BlockLemmas.{either_way}
use Rattle.nb_tftp.proofs.HistoryLemmas.{got-append, watched-append, EachEntry-append}
use Rattle.nb_machine.specs.Sendings.{is_over_limit}
use Rattle.nb_laws.specs.Events.{Event}
use Rattle.nb_laws.specs.Lists as lists
use Rattle.nb_laws.specs.Lists.{time, tries, marks, times_in, heard_in, Opening, openings}
use Rattle.nb_laws.specs.Agreement.{moment, entry_marks}
use Rattle.nb_laws.specs.Endings.{HasTried, IsKind, Holds, by_answer, by_refusal, by_long_block, by_unfit_size, by_last_number, by_silence}
use Rattle.nb_laws.proofs.Watches.{watch_told, tries_fired}
use Rattle.nb_laws.proofs.Tries.{either_false}
use Rattle.nb_machine.specs.Lives.{Live, tftp}
use Rattle.nb_machine.specs.Transfers.{transfer_of}
use Rattle.nb_openlaws.proofs.KindFacts.{opening_as}

-- what the history says of a transfer's open, after its last entry; its tries, where that was a time
pub record TransferTold (es : List Event) (l : Live) (h : List Entry) (e : Entry) : Type 0 where
  pub opening : openings l.number es ≡ opening_as tftp l ∷ []
  pub received : lists.datagrams_of l.number es ≡ got (h ++ e ∷ [])
  pub marked : (now : ℕ) → e.call ≡ ticked now → marks l.number es ≡ tries 1 l.since ∷ flat_map entry_marks (h ++ e ∷ [])
  pub at : moment e.call ≡ time es

-- the tries have run out
tried_out : (es : List Event) (l : Live) (h : List Entry) (e : Entry) (now : ℕ) → TransferTold es l h e → Meets (transfer_of l) l.since (h ++ e ∷ []) → e.call ≡ ticked now → RanOut (watched l.since (h ++ e ∷ [])) now → IsUnanswered l.since h →
    HasTried l.number es
tried_out es l h e now a meets call out unanswered =
    let k = l.number in
    let x = watch_told (transfer_of l) l.since (h ++ e ∷ []) meets.sending in
    let got_now : lists.datagrams_of k es ≡ got h = a.received ∙ got-append h e ∙ ap (λ c. got h ++ received_by c) call ∙ append-nil (got h) in
    let heard_now : heard_in x.rest ≡ (watched l.since h).heard = x.news ∙ ap (λ (z : Watch). z.heard) (watched-append l.since h e) ∙ ap (λ c. (watched_call (watched l.since h) c e.acts).heard) call in
    let now_is : now ≡ time es = ap moment (sym call) ∙ a.at in
    let due : (t : ℕ) (r : Option ℕ) → first_from t (moments (watched l.since (h ++ e ∷ []))) ≡ r → first_from t (times_in x.rest) ≡ r = λ t r f. ap (first_from t) x.times ∙ f in
    record {
      earlier = x.earlier;
      rest = x.rest;
      first = (watched l.since (h ++ e ∷ [])).since;
      second = out.second;
      third = out.third;
      fourth = out.fourth;
      fifth = out.fifth;
      sixth = out.sixth;
      all = a.marked now call ∙ x.all;
      tried = x.tried ∙ tries_fired (watched l.since (h ++ e ∷ [])).times _ out.fired;
      second_due = due _ _ out.second_due;
      third_due = due _ _ out.third_due;
      fourth_due = due _ _ out.fourth_due;
      fifth_due = due _ _ out.fifth_due;
      sixth_due = due _ _ out.sixth_due;
      over_due = due _ _ out.over_due ∙ ap (λ t. Some t) now_is;
      silent = ap (λ z. list_any (answers (fixed_port z) (count z)) (heard_in x.rest)) got_now ∙ ap (λ z. list_any (answers (fixed_port (got h)) (count (got h))) z) heard_now ∙ unanswered;
    }

file_kind : (es : List Event) (l : Live) (h : List Entry) (e : Entry) → TransferTold es l h e → IsKind 1 l.number es (opening_as tftp l)
file_kind es l h e a = record { opening = a.opening; kind_is = refl }

last_is : (es : List Event) (l : Live) (h : List Entry) (e : Entry) (c : Call) → TransferTold es l h e → e.call ≡ c → lists.datagrams_of l.number es ≡ got h ++ received_by c
last_is es l h e c a call = a.received ∙ got-append h e ∙ ap (λ x. got h ++ received_by x) call

-- the transfer's own end has its cause
told_holds : (es : List Event) (l : Live) (h : List Entry) (e : Entry) (cause : Cause) → TransferTold es l h e → Meets (transfer_of l) l.since (h ++ e ∷ []) → Ending l.since h e cause → Holds l.number es cause
told_holds es l h e cause a meets (told.by_whole_file c whole) = by_answer (opening_as tftp l) a.opening c (ap is_whole_transfer a.received ∙ whole)
told_holds es l h e cause a meets (told.by_refusal m now number call c refuses) = by_refusal (opening_as tftp l) (file_kind es l h e a) (got h) m number (last_is es l h e (came m now) a call) c refuses
told_holds es l h e cause a meets (told.by_long_block m now call c long) = by_long_block (opening_as tftp l) (file_kind es l h e a) (got h) m (last_is es l h e (came m now) a call) c long
told_holds es l h e cause a meets (told.by_unfit_size m now call c unfit) = by_unfit_size (opening_as tftp l) (file_kind es l h e a) (got h) m (last_is es l h e (came m now) a call) c unfit
told_holds es l h e cause a meets (told.by_last_number c full) = by_last_number (opening_as tftp l) (file_kind es l h e a) c (subst IsFull (sym a.received) full)
told_holds es l h e cause a meets (told.by_silence now call c out unanswered) = by_silence (opening_as tftp l) (file_kind es l h e a) c (tried_out es l h e now a meets call out unanswered)

-- a transfer that goes on has had no end at any entry
stops_from : (before h : List Entry) → is_ended (before ++ h) ≡ false → EachEntry (λ b x. is_ended b ≡ false) before h
stops_from before [] running = tt
stops_from before (x ∷ h) running =
    let all : is_ended ((before ++ x ∷ []) ++ h) ≡ false = ap is_ended (append_assoc before (x ∷ []) h) ∙ running in
    (front before (x ∷ h) running, stops_from (before ++ x ∷ []) h all)
  where
    front : (a b : List Entry) → is_ended (a ++ b) ≡ false → is_ended a ≡ false
    front [] b e = refl
    front (y ∷ a) b e =
        let both = either_false (is_some y.acts.over) (is_ended (a ++ b)) e in ap (λ z. z || is_ended a) both.0 ∙ front a b both.1

-- its file isn't too large for an image
pub within_limit : (l : Live) (h : List Entry) (e : Entry) → Meets (transfer_of l) l.since (h ++ e ∷ []) → is_ended h ≡ false → is_over_limit (file (got (h ++ e ∷ []))) ≡ false
within_limit l h e meets running =
    let small = most_of_calls true (transfer_of l) l.since (h ++ e ∷ []) meets (EachEntry-append (λ b x. is_ended b ≡ false) [] h e (stops_from [] h running) running) in
    either_way (is_over_limit (file (got (h ++ e ∷ [])))) (λ large. absurd (omega (arith, small, ltb-true 268435456 (length (file (got (h ++ e ∷ [])))) large))) (λ small. small)

pub whole_as_told : (l : Live) (h : List Entry) (e : Entry) (over : Option Cause) → Meets (transfer_of l) l.since (h ++ e ∷ []) → e.acts.over ≡ over → option_map_or (λ c. c.code == 0) over false ≡ is_whole_transfer (got (h ++ e ∷ []))
whole_as_told l h e over meets is = ap (λ (x : Option Cause). option_map_or (λ c. c.code == 0) x false) (sym is) ∙ EachEntry-last OkWhereWhole [] h e meets.whole

-- its end has its cause, and is Ok exactly where the file is whole
pub transfer_holds : (es : List Event) (l : Live) (h : List Entry) (e : Entry) (cause : Cause) → TransferTold es l h e → Meets (transfer_of l) l.since (h ++ e ∷ []) → e.acts.over ≡ Some cause →
    Holds l.number es cause × (is_ok_cause cause ≡ is_whole_transfer (lists.datagrams_of l.number es))
transfer_holds es l h e cause a meets over = (
  told_holds es l h e cause a meets (ends_as_told true (transfer_of l) l.since h e cause meets over),
  whole_as_told l h e (Some cause) meets over ∙ ap is_whole_transfer (sym a.received),
)
