-- What is spelled, as more is told.
use Rattle.std.proofs.Common.{◌≡◌, ℕ, ◌==◌, ◌||◌, Bool, true, false, cond, List, [], ◌∷◌, ◌++◌, Option, Some, None, refl, sym, ◌∙◌, ap, subst, append-nil}
use Rattle.std.proofs.lemmas.List.{append_assoc}
use Rattle.std.specs.Option.{option_or}
use Rattle.std.proofs.Math.Bool.{or-false}
use Rattle.std.proofs.lemmas.Grind.{flat_map-append}
use Rattle.std.proofs.lemmas.List.Folds.{list_any-append}
use Rattle.nb_terms.specs.declared.cause.Cause.{Cause}
use Rattle.nb_terms.specs.declared.event.Event.{Event}
use Rattle.nb_wire.specs.declared.address.Ip4.{Ip4}
use Rattle.nb_defs.specs.Records.{out_text, out_texts, graph}
use Rattle.nb_ledger.specs.Flat.{Notice, Given, unknown, shows, event, message}
use Rattle.nb_ledger.specs.declared.port.Port.{Port}
use Rattle.nb_nodes.specs.Tags.{tag_number}
use Rattle.nb_nodes.specs.declared.tag.Tag.TheVariants.{Bytes, Address}
use Rattle.nb_opens.specs.Notices.{close_of, first_close, or_else}
use Rattle.nb_opens.proofs.CloseLemmas.{first_close-append}
use Rattle.nb_stack.specs.Client.{Client}
use Rattle.nb_teller.specs.declared.speaker.Speaker.{Speaker}
use Rattle.nb_drivechains.specs.declared.drive_answer.DriveAnswer.{DriveAnswer}
use Rattle.nb_drivechains.specs.DriveCalls.{drive_answer_in}
use Rattle.nb_teller.specs.Deliveries.{delivered_address, delivered_answer, delivered_blocks, delivered_bytes}
use Rattle.nb_teller.specs.Spelling.{Spelling, rows_of, rows_in, heard_by, IsSpelled, IsBlank, SpellsMore, SpellsMessage, FindsNothing, bytes_after, address_after, blocks_after, answer_after, first_there}
use Rattle.nb_drivenodes.specs.DriveTags.{drive_tag_number}
use Rattle.nb_drivenodes.specs.declared.drive_tag.DriveTag.TheVariants.{Answered}
use Rattle.nb_teller.specs.Tellings.{is_delivery, notice_records, told_records, lacks_route, any_lacks_route}
use Rattle.nb_teller.proofs.TellingLemmas.{told-append}
use Rattle.nb_teller.proofs.RowLemmas.{are_rows, rows_are}

-- no delivery has any of the tags of one
or_parts : (a b : Bool) → (a || b) ≡ false → (a ≡ false) × (b ≡ false)
or_parts false b e = (refl, e)
or_parts true b e = absurd (let no : true ≡ false = e in cc)

pub no_delivery : (tag : ℕ) → is_delivery tag ≡ false → ((tag == tag_number Bytes) ≡ false) × ((tag == tag_number Address) ≡ false) × ((tag == drive_tag_number Answered) ≡ false)
no_delivery tag e =
    let first = or_parts (tag == tag_number Bytes) ((tag == tag_number Address) || (tag == drive_tag_number Answered)) e in
    let second = or_parts (tag == tag_number Address) (tag == drive_tag_number Answered) first.1 in
    (first.0, second.0, second.1)

-- nothing comes after it
pub or_none_there : {A : Type 0} (a : Option A) → first_there a None ≡ a
or_none_there None = refl
or_none_there (Some x) = refl

pub or_none : (a : Option Cause) → or_else a None ≡ a
or_none None = refl
or_none (Some c) = refl

-- what a notice adds to what was delivered first
abbrev bytes_by : Option (List ℕ) → Notice → Option (List ℕ)
bytes_by before (event e) = before
bytes_by before (message from tag rec a b bytes) = bytes_after before tag bytes

abbrev address_by : Option Ip4 → Notice → Option Ip4
address_by before (event e) = before
address_by before (message from tag rec a b bytes) = address_after before tag a

abbrev blocks_by : List ℕ → Notice → List ℕ
blocks_by before (event e) = before
blocks_by before (message from tag rec a b bytes) = blocks_after before tag bytes

abbrev answer_by : Option DriveAnswer → Notice → Option DriveAnswer
answer_by before (event e) = before
answer_by before (message from tag rec a b bytes) = answer_after before tag a b

same_both : {A : Type 0} (b : Bool) (x : A) → cond b x x ≡ x
same_both true x = refl
same_both false x = refl

bytes_stay : (bytes : List ℕ) (n : Notice) → Some bytes ≡ bytes_by (Some bytes) n
bytes_stay bytes (event e) = refl
bytes_stay bytes (message from tag rec a b more) = sym (same_both (tag == tag_number Bytes) (Some bytes))

address_stays : (address : Ip4) (n : Notice) → Some address ≡ address_by (Some address) n
address_stays address (event e) = refl
address_stays address (message from tag rec a b more) = sym (same_both (tag == tag_number Address) (Some address))

bytes_more : (ns : List Notice) (n : Notice) → delivered_bytes (ns ++ n ∷ []) ≡ bytes_by (delivered_bytes ns) n
unfolding delivered_bytes
bytes_more [] (event e) = refl
bytes_more [] (message from tag rec a b bytes) = refl
bytes_more (event e ∷ ns) n = bytes_more ns n
bytes_more (message from tag rec a b bytes ∷ ns) n = by (tag == tag_number Bytes) (bytes_more ns n)
  where
    by : (k : Bool) → delivered_bytes (ns ++ n ∷ []) ≡ bytes_by (delivered_bytes ns) n → cond k (Some bytes) (delivered_bytes (ns ++ n ∷ [])) ≡ bytes_by (cond k (Some bytes) (delivered_bytes ns)) n
    by true rest = bytes_stay bytes n
    by false rest = rest

address_more : (ns : List Notice) (n : Notice) → delivered_address (ns ++ n ∷ []) ≡ address_by (delivered_address ns) n
unfolding delivered_address
address_more [] (event e) = refl
address_more [] (message from tag rec a b bytes) = refl
address_more (event e ∷ ns) n = address_more ns n
address_more (message from tag rec a b bytes ∷ ns) n = by (tag == tag_number Address) (address_more ns n)
  where
    by : (k : Bool) → delivered_address (ns ++ n ∷ []) ≡ address_by (delivered_address ns) n →
        cond k (Some (record { 0 = a })) (delivered_address (ns ++ n ∷ [])) ≡ address_by (cond k (Some (record { 0 = a })) (delivered_address ns)) n
    by true rest = address_stays (record { 0 = a }) n
    by false rest = rest

blocks_more : (ns : List Notice) (n : Notice) → delivered_blocks (ns ++ n ∷ []) ≡ blocks_by (delivered_blocks ns) n
unfolding delivered_blocks
blocks_more [] (event e) = refl
blocks_more [] (message from tag rec a b bytes) = ap (λ z. cond (tag == tag_number Bytes) z []) (append-nil bytes)
blocks_more (event e ∷ ns) n = blocks_more ns n
blocks_more (message from tag rec a b bytes ∷ ns) n = by (tag == tag_number Bytes) (blocks_more ns n)
  where
    goes_in : (m : Notice) → bytes ++ blocks_by (delivered_blocks ns) m ≡ blocks_by (bytes ++ delivered_blocks ns) m
    goes_in (event e) = refl
    goes_in (message from k rec a b more) = at (k == tag_number Bytes)
      where
        at : (j : Bool) → bytes ++ cond j (delivered_blocks ns ++ more) (delivered_blocks ns) ≡ cond j ((bytes ++ delivered_blocks ns) ++ more) (bytes ++ delivered_blocks ns)
        at true = sym (append_assoc bytes (delivered_blocks ns) more)
        at false = refl

    by : (k : Bool) → delivered_blocks (ns ++ n ∷ []) ≡ blocks_by (delivered_blocks ns) n → cond k (bytes ++ delivered_blocks (ns ++ n ∷ [])) (delivered_blocks (ns ++ n ∷ [])) ≡ blocks_by (cond k (bytes ++ delivered_blocks ns) (delivered_blocks ns)) n
    by true rest = ap (λ z. bytes ++ z) rest ∙ goes_in n
    by false rest = rest

-- the first of two is the first, and of three
or_there : {A : Type 0} (a b : Option A) → option_or a b ≡ first_there a b
or_there None b = refl
or_there (Some x) b = refl

first_in : {A : Type 0} (a b c : Option A) → first_there a (first_there b c) ≡ first_there (first_there a b) c
first_in None b c = refl
first_in (Some x) b c = refl

first_none : {A : Type 0} (a : Option A) → option_or a None ≡ a
first_none None = refl
first_none (Some x) = refl

answer_more : (ns : List Notice) (n : Notice) → delivered_answer (ns ++ n ∷ []) ≡ answer_by (delivered_answer ns) n
unfolding delivered_answer
answer_more [] (event e) = refl
answer_more [] (message from tag rec a b bytes) = first_none (drive_answer_in tag a b)
answer_more (event e ∷ ns) n = answer_more ns n
answer_more (message from tag rec a b bytes ∷ ns) n = ap (option_or (drive_answer_in tag a b)) (answer_more ns n) ∙ goes_in (drive_answer_in tag a b) n
  where
    goes_in : (x : Option DriveAnswer) (m : Notice) → option_or x (answer_by (delivered_answer ns) m) ≡ answer_by (option_or x (delivered_answer ns)) m
    goes_in x (event e) = refl
    goes_in x (message from tag rec a b bytes) =
        or_there x (first_there (delivered_answer ns) (drive_answer_in tag a b)) ∙ (first_in x (delivered_answer ns) (drive_answer_in tag a b) ∙ ap (λ z. first_there z (drive_answer_in tag a b)) (sym (or_there x (delivered_answer ns))))

-- whether a message found no route, with one thing more
stuck_more : (net : Client) (who : Speaker) (ns : List Notice) (n : Notice) → any_lacks_route net who (ns ++ n ∷ []) ≡ (any_lacks_route net who ns || lacks_route net who n)
stuck_more net who ns n =
    list_any-append (lacks_route net who) ns (n ∷ []) ∙ ap (λ b. any_lacks_route net who ns || b) (or-false (lacks_route net who n))

-- nothing was delivered of what wasn't told
none_delivered : (delivered_bytes [] ≡ None) × (delivered_address [] ≡ None) × (delivered_blocks [] ≡ []) × (delivered_answer [] ≡ None)
unfolding delivered_bytes delivered_address delivered_blocks delivered_answer
none_delivered = (refl, refl, refl, refl)

-- the records of one thing more
texts_more : (net : Client) (who : Speaker) (ns : List Notice) (n : Notice) → out_texts (told_records net who (ns ++ n ∷ [])) ≡ out_texts (told_records net who ns) ++ out_texts (notice_records net who n)
texts_more net who ns n =
    ap out_texts (told-append net who ns (n ∷ []) ∙ ap (λ z. told_records net who ns ++ z) (append-nil (notice_records net who n)))
    ∙ flat_map-append out_text (told_records net who ns) (notice_records net who n)

-- what one thing more adds to what is spelled
abbrev pub AddsIt : Client → Speaker → Spelling → Spelling → Notice → Type 0
AddsIt net who s t n = (s.is_lost ≡ false) × (t.text ≡ s.text ++ out_texts (notice_records net who n)) × (t.closed ≡ or_else s.closed (close_of n))
    × (t.bytes ≡ bytes_by s.bytes n) × (t.address ≡ address_by s.address n) × (t.is_stuck ≡ (s.is_stuck || lacks_route net who n))
    × (t.blocks ≡ blocks_by s.blocks n) × (t.answer ≡ answer_by s.answer n)

spelled_then : (net : Client) (who : Speaker) (s t : Spelling) (ns : List Notice) (n : Notice) → t.is_lost ≡ false → AddsIt net who s t n → IsSpelled net who s ns → IsSpelled net who t (ns ++ n ∷ [])
spelled_then net who s t ns n kept adds is = (
  kept,
  adds.1 ∙ ap (λ z. z ++ out_texts (notice_records net who n)) is.1 ∙ sym (texts_more net who ns n),
  adds.2 ∙ ap (λ z. or_else z (close_of n)) is.2 ∙ ap (or_else (first_close ns)) (sym (or_none (close_of n))) ∙ sym (first_close-append ns (n ∷ [])),
  adds.3 ∙ ap (λ z. bytes_by z n) is.3 ∙ sym (bytes_more ns n),
  adds.4 ∙ ap (λ z. address_by z n) is.4 ∙ sym (address_more ns n),
  adds.5 ∙ ap (λ z. z || lacks_route net who n) is.5 ∙ sym (stuck_more net who ns n),
  adds.6 ∙ ap (λ z. blocks_by z n) is.6 ∙ sym (blocks_more ns n),
  adds.7 ∙ ap (λ z. answer_by z n) is.7 ∙ sym (answer_more ns n),
)

-- what is known of what was told, where nothing of it is lost or all
known : (net : Client) (who : Speaker) (s : Spelling) (b : Bool) → s.is_lost ≡ b → heard_by net who s ≡ cond b unknown (shows (rows_of net who) (rows_in s))
known net who s b e = ap (λ z. cond z unknown (shows (rows_of net who) (rows_in s))) e

-- what was added is what was given
pub adds_given : (net : Client) (who : Speaker) (s t : Spelling) (n : Notice) → (t.is_lost ≡ false → AddsIt net who s t n) → Given (heard_by net who s) (heard_by net who t) (n ∷ [])
adds_given net who s t n adds = by t.is_lost refl
  where
    by : (b : Bool) → t.is_lost ≡ b → Given (heard_by net who s) (heard_by net who t) (n ∷ [])
    by true lost = subst (λ h. Given (heard_by net who s) h (n ∷ [])) (sym (known net who t true lost)) (tt, λ ns h. tt)
    by false kept =
        let it = adds kept in
        subst (λ h. Given h (heard_by net who t) (n ∷ [])) (sym (known net who s false it.0))
        (subst (λ h. Given (shows (rows_of net who) (rows_in s)) h (n ∷ [])) (sym (known net who t false kept))
        (refl, λ ns h. rows_are net who t (ns ++ n ∷ []) (spelled_then net who s t ns n kept it (are_rows net who s ns it.0 h))))

-- an event is told by one that is the same
pub event_told : (net : Client) (who : Speaker) (s d t : Spelling) (e : Event) → d ≡ s → SpellsMore d t (graph e ∷ []) → FindsNothing d t → t.is_stuck ≡ d.is_stuck → t.closed ≡ or_else d.closed (close_of (event e)) →
    Given (heard_by net who s) (heard_by net who t) (event e ∷ [])
event_told net who s d t e same more found stuck closed =
    subst (λ x. Given (heard_by net who x) (heard_by net who t) (event e ∷ [])) same
    (adds_given net who d t (event e) (λ kept. ((more kept).0, (more kept).1, closed, found.0, found.1, stuck ∙ sym (or-false d.is_stuck), found.2, found.3)))

-- so is a message, by its tag
pub message_told : (net : Client) (who : Speaker) (s d t : Spelling) (from : Port) (tag number rec a b : ℕ) (bytes : List ℕ) → d ≡ s → number ≡ tag → SpellsMessage net who d t number a b bytes →
    Given (heard_by net who s) (heard_by net who t) (message from tag rec a b bytes ∷ [])
message_told net who s d t from tag number rec a b bytes same is says =
    let it : SpellsMessage net who d t tag a b bytes = subst (λ k. SpellsMessage net who d t k a b bytes) is says in
    subst (λ x. Given (heard_by net who x) (heard_by net who t) (message from tag rec a b bytes ∷ [])) same
    (adds_given net who d t (message from tag rec a b bytes) (λ kept. ((it.1 kept).0, (it.1 kept).1, it.0 ∙ sym (or_none d.closed), (it.2 kept).0, (it.2 kept).1, it.3 kept, (it.2 kept).2, (it.2 kept).3)))

-- what was told after what was told before, which may show by an image of another
given_shown : (net net' : Client) (who who' : Speaker) (s t : Spelling) (ns more : List Notice) → t.is_lost ≡ false → rows_of net who ns ≡ rows_in s → Given (heard_by net who s) (heard_by net' who' t) more →
    rows_of net who (ns ++ more) ≡ rows_in t
given_shown net net' who who' s t ns more kept shown g = by s.is_lost refl
  where
    at : (b : Bool) → s.is_lost ≡ b → Given (cond b unknown (shows (rows_of net who) (rows_in s))) (shows (rows_of net' who') (rows_in t)) more
    at b e = subst (λ h. Given h (shows (rows_of net' who') (rows_in t)) more) (known net who s b e) (subst (λ h. Given (heard_by net who s) h more) (known net' who' t false kept) g)

    by : (b : Bool) → s.is_lost ≡ b → rows_of net who (ns ++ more) ≡ rows_in t
    by true e = absurd (at true e).0
    by false e = let it = at false e in ap (λ f. f (ns ++ more)) (sym it.0) ∙ it.1 ns shown

-- what was given to one that had nothing is spelled
pub spelled_is : (net net' : Client) (who who' : Speaker) (s t : Spelling) (ns : List Notice) → IsBlank s → Given (heard_by net who s) (heard_by net' who' t) ns → t.is_lost ≡ false → IsSpelled net who t ns
spelled_is net net' who who' s t ns blank g kept =
    let shown : rows_of net who [] ≡ rows_in s = rw (blank.0, blank.1, blank.2, blank.3, blank.4, blank.5, blank.6, none_delivered.0, none_delivered.1, none_delivered.2, none_delivered.3) refl in
    are_rows net who t ns kept (given_shown net net' who who' s t [] ns kept shown g)
