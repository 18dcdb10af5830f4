-- Bytes after the records used with which no record can come, and the ends of a run.
use Rattle.std.proofs.Common.{◌≡◌, ℕ, ◌+◌, inl, inr, List, [], ◌++◌, take, drop, Option, Some, None, sym, ◌∙◌, ap, append_assoc}
use Rattle.std.specs.Prelude.{IfSome}
use Rattle.std.proofs.lemmas.List.{take-append-drop}
use Rattle.nb_defs.specs.Records.{IsBroken}
use Rattle.nb_record.specs.Outside.{Outside, Passes, Gave, IsAtEnd}
use Rattle.nb_record.specs.Held.{BreaksAt}
use Rattle.nb_machine.specs.Courses.{Progress, Standing, ready, running, waiting, reaching, yielded, handing, left, handed_off, stopped}
use Rattle.nb_boot.specs.Shown.{NoneMayCome, EndsWhere, was_left, was_handed, was_stopped, ran_out, was_bad, was_full}

gave_nothing : (old now : Option (List ℕ)) → Gave old now [] → IfSome old (λ rest. rest ≡ []) → IfSome now (λ rest. rest ≡ [])
gave_nothing old None g e = tt
gave_nothing None (Some y) g e = absurd g
gave_nothing (Some x) (Some y) g e = sym g ∙ e

-- an input that ended stays ended where nothing is read
pub end_stays : (before now : Outside) (written : List ℕ) → Passes before now [] written → IsAtEnd before → IsAtEnd now
end_stays before now written p e = gave_nothing before.left now.left p.gave e

bad_stays : (p : Standing) (rest written : List ℕ) (before now : Outside) → Passes before now [] written → NoneMayCome p rest before → NoneMayCome p rest now
bad_stays ready rest written before now p (inl b) = inl b
bad_stays ready rest written before now p (inr (inl b)) = inr (inl b)
bad_stays ready rest written before now p (inr (inr e)) = inr (inr (e.0, end_stays before now written p e.1))
bad_stays (waiting s w) rest written before now p (inl b) = inl b
bad_stays (waiting s w) rest written before now p (inr (inl b)) = inr (inl b)
bad_stays (waiting s w) rest written before now p (inr (inr e)) = inr (inr (e.0, e.1, end_stays before now written p e.2))
bad_stays (yielded s inner outer) rest written before now p (inl b) = inl b
bad_stays (yielded s inner outer) rest written before now p (inr (inl b)) = inr (inl b)
bad_stays (yielded s inner outer) rest written before now p (inr (inr e)) = inr (inr (e.0, e.1, end_stays before now written p e.2))
bad_stays (reaching s inner outer next) rest written before now p b = absurd b
bad_stays (running s inner outer) rest written before now p b = absurd b
bad_stays (handing s more) rest written before now p b = absurd b
bad_stays (left s outer cause) rest written before now p b = absurd b
bad_stays (handed_off s) rest written before now p b = absurd b
bad_stays (stopped s) rest written before now p b = absurd b

-- a run that is over stays over where nothing is read
pub ends_stay : (m : Progress) (rest written : List ℕ) (before now : Outside) (number : ℕ) → Passes before now [] written → EndsWhere m rest before number → EndsWhere m rest now number
ends_stay m rest written before now number p (was_left s cause h e) = was_left s cause h e
ends_stay m rest written before now number p (was_handed s h e) = was_handed s h e
ends_stay m rest written before now number p (was_stopped s h e) = was_stopped s h e
ends_stay m rest written before now number p (ran_out h none at_end e) = ran_out h none (end_stays before now written p at_end) e
ends_stay m rest written before now number p (was_bad few bad e) = was_bad few (bad_stays m.standing rest written before now p bad) e
ends_stay m rest written before now number p (was_full full h some e) = was_full full h some e

-- bytes that break somewhere begin no record
pub breaks_broken : (bytes : List ℕ) (why : ℕ) → BreaksAt bytes why → IsBroken bytes
breaks_broken bytes why b = λ r more rest valid e.
    let whole : take (b.place + 1) bytes ++ drop (b.place + 1) bytes ≡ bytes = take-append-drop (b.place + 1) bytes in
    b.with_it r (drop (b.place + 1) bytes ++ more) rest valid
    (sym (append_assoc (take (b.place + 1) bytes) (drop (b.place + 1) bytes) more) ∙ ap (λ t. t ++ more) whole ∙ e)
