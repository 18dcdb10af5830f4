-- What a drive does with one thing more that comes.
use Rattle.std.proofs.Common.{◌≡◌, ◌≤◌, ◌+◌, ◌||◌, ℕ, Bool, true, false, List, [], ◌∷◌, ◌++◌, length, take, drop, max, fold, Option, Some, None, if◌then◌else◌, refl, ap, ◌∙◌, sym, append_assoc, append-nil, arith, leb}
use Rattle.std.specs.Option.{option_or, is_some}
use Rattle.std.proofs.lemmas.Bool.{le-leb, or_parts}
use Rattle.std.proofs.lemmas.List.{take-append-le, length-append, take_all, take-append-drop, drop_all, drop-append-le}
use Rattle.nb_terms.specs.declared.cause.Cause.{Cause}
use Rattle.nb_disk.specs.Histories.{DiskCall, asked, DiskReading, nothing_read, SessionNumbers, after_call, reading}
use Rattle.nb_disk.specs.DiskAnswers.{disk_answer, ended_from, session_has_ended}
use Rattle.nb_sans.specs.Sessions.{ReadTask, stream_parts, comes_from, is_call, taken_from, text_of_put, puts_from, over_from}
use Rattle.nb_sans.specs.SessionSteps.{AreAskedBy, said_to}
use Rattle.nb_sans.proofs.StreamGrowth.{parts_grow}

-- ---- what comes

asked_on : (come later : List ℕ) (place : ℕ) → place ≤ length come → (leb place (length (come ++ later)) ≡ true) × (take place (come ++ later) ≡ take place come)
asked_on come later place near = (le-leb place (length (come ++ later)) (omega (arith, length-append come later)), take-append-le place come later near)

-- there are no more parts in a prefix
pub fewer : (rec : ℕ) (stream : List ℕ) (place : ℕ) → length (stream_parts rec (take place stream)) ≤ length (stream_parts rec stream)
fewer rec stream place =
    let more = parts_grow rec (take place stream) (drop place stream) in
    let all : stream_parts rec stream ≡ stream_parts rec (take place stream) ++ more.rest = ap (stream_parts rec) (sym (take-append-drop place stream)) ∙ more.is in
    let long : length (stream_parts rec stream) ≡ length (stream_parts rec (take place stream)) + length more.rest = ap length all ∙ length-append (stream_parts rec (take place stream)) more.rest in
    omega (arith, long)

-- a part more of the stream comes last
pub part_comes : (rec : ℕ) (come later : List ℕ) (new : List DiskCall) (done : ℕ) (tasks : List (ReadTask × ℕ)) → AreAskedBy come tasks → done ≤ length (stream_parts rec come)
    → stream_parts rec (come ++ later) ≡ stream_parts rec come ++ new → comes_from rec (come ++ later) done tasks ≡ comes_from rec come done tasks ++ new
part_comes rec come later new done [] by within is = ap (drop done) is ∙ drop-append-le done (stream_parts rec come) new within
part_comes rec come later new done (t ∷ tasks) by within is =
    let far = asked_on come later t.1 by.0 in
    let here : leb t.1 (length come) ≡ true = le-leb t.1 (length come) by.0 in
    let at : leb t.1 (length (come ++ later)) ≡ true = far.0 in
    let same : take t.1 (come ++ later) ≡ take t.1 come = far.1 in
    let count = length (stream_parts rec (take t.1 come)) in
    let rest = part_comes rec come later new (max done (length (stream_parts rec (take t.1 come)))) tasks by.1 (let few = fewer rec come t.1 in omega (arith, few, within)) is in
    let ask = asked t.0.lba t.0.blocks in
    rw (at, same, here) (ap (λ (l : List DiskCall). drop done (stream_parts rec (take t.1 come)) ++ ask ∷ l) rest
    ∙ sym (append_assoc (drop done (stream_parts rec (take t.1 come))) (ask ∷ comes_from rec come (max done (length (stream_parts rec (take t.1 come)))) tasks) new))

-- so does a task that is asked after all that has come
pub task_comes : (rec : ℕ) (come : List ℕ) (done : ℕ) (tasks : List (ReadTask × ℕ)) (task : ReadTask) → AreAskedBy come tasks
    → comes_from rec come done (tasks ++ (task, length come) ∷ []) ≡ comes_from rec come done tasks ++ asked task.lba task.blocks ∷ []
task_comes rec come done [] task by =
    let here : leb (length come) (length come) ≡ true = le-leb (length come) (length come) (omega arith) in
    let same : take (length come) come ≡ come = take_all (length come) come (omega arith) in
    let none : drop (max done (length (stream_parts rec come))) (stream_parts rec come) ≡ [] = drop_all (max done (length (stream_parts rec come))) (stream_parts rec come) (omega arith) in
    rw (here, same, none) refl
task_comes rec come done (t ∷ tasks) task by =
    let here : leb t.1 (length come) ≡ true = le-leb t.1 (length come) by.0 in
    let rest = task_comes rec come (max done (length (stream_parts rec (take t.1 come)))) tasks task by.1 in
    let ask = asked t.0.lba t.0.blocks in
    rw here (ap (λ (l : List DiskCall). drop done (stream_parts rec (take t.1 come)) ++ ask ∷ l) rest
    ∙ sym (append_assoc (drop done (stream_parts rec (take t.1 come))) (ask ∷ comes_from rec come (max done (length (stream_parts rec (take t.1 come)))) tasks) (asked task.lba task.blocks ∷ [])))

-- ---- which of it are calls

-- the call that what comes then is, if it is one
pub call_then : SessionNumbers → DiskReading → List DiskCall → DiskCall → List DiskCall
call_then o r calls call = if ended_from o r calls then [] else (if is_call (fold (after_call o) r calls) call then call ∷ [] else [])

one_call : (call : DiskCall) (b c : Bool) → (if b then (call ∷ (if c then [] else [])) else []) ≡ (if b then call ∷ [] else [])
one_call call true true = refl
one_call call true false = refl
one_call call false c = refl

-- nothing is one after an end, and a call that isn't one leaves all to those after it
then_ended : (o : SessionNumbers) (r : DiskReading) (calls : List DiskCall) (call : DiskCall) → ended_from o r calls ≡ true → call_then o r calls call ≡ []
unfolding call_then
then_ended o r calls call e = rw e refl

then_goes : (o : SessionNumbers) (r : DiskReading) (first : DiskCall) (calls : List DiskCall) (call : DiskCall) → is_some (disk_answer o r first).over ≡ false
    → call_then o r (first ∷ calls) call ≡ call_then o (after_call o r first) calls call
unfolding call_then
then_goes o r first calls call e =
    ap (λ b. if b || ended_from o (after_call o r first) calls then [] else (if is_call (fold (after_call o) (after_call o r first) calls) call then call ∷ [] else [])) e

pub taken_on : (o : SessionNumbers) (r : DiskReading) (comes : List DiskCall) (call : DiskCall) → taken_from o r (comes ++ call ∷ []) ≡ taken_from o r comes ++ call_then o r (taken_from o r comes) call
unfolding call_then
taken_on o r [] call = one_call call (is_call r call) (is_some (disk_answer o r call).over)
taken_on o r (first ∷ comes) call = by (taken_on o (after_call o r first) comes call) (taken_on o r comes call) (is_call r first)
  where
    by_over : taken_from o (after_call o r first) (comes ++ call ∷ []) ≡ taken_from o (after_call o r first) comes ++ call_then o (after_call o r first) (taken_from o (after_call o r first) comes) call
        → (b : Bool) → is_some (disk_answer o r first).over ≡ b
        → first ∷ (if b then [] else taken_from o (after_call o r first) (comes ++ call ∷ []))
        ≡ (first ∷ (if b then [] else taken_from o (after_call o r first) comes)) ++ call_then o r (first ∷ (if b then [] else taken_from o (after_call o r first) comes)) call
    by_over goes true e = ap (λ (l : List DiskCall). first ∷ l) (sym (then_ended o r (first ∷ []) call (ap (λ b. b || false) e)))
    by_over goes false e =
        ap (λ (l : List DiskCall). first ∷ l) (goes ∙ ap (λ (l : List DiskCall). taken_from o (after_call o r first) comes ++ l) (sym (then_goes o r first (taken_from o (after_call o r first) comes) call e)))

    by : taken_from o (after_call o r first) (comes ++ call ∷ []) ≡ taken_from o (after_call o r first) comes ++ call_then o (after_call o r first) (taken_from o (after_call o r first) comes) call
        → taken_from o r (comes ++ call ∷ []) ≡ taken_from o r comes ++ call_then o r (taken_from o r comes) call
        → (b : Bool)
        → (if b then (first ∷ (if is_some (disk_answer o r first).over then [] else taken_from o (after_call o r first) (comes ++ call ∷ []))) else taken_from o r (comes ++ call ∷ []))
        ≡ (if b then (first ∷ (if is_some (disk_answer o r first).over then [] else taken_from o (after_call o r first) comes)) else taken_from o r comes)
        ++ call_then o r (if b then (first ∷ (if is_some (disk_answer o r first).over then [] else taken_from o (after_call o r first) comes)) else taken_from o r comes) call
    by goes past true = by_over goes (is_some (disk_answer o r first).over) refl
    by goes past false = past

-- ---- what it puts, and how it ends

puts_on : (o : SessionNumbers) (r : DiskReading) (calls more : List DiskCall) → puts_from o r (calls ++ more) ≡ puts_from o r calls ++ puts_from o (fold (after_call o) r calls) more
puts_on o r [] more = refl
puts_on o r (call ∷ calls) more =
    ap (λ l. text_of_put (disk_answer o r call).put ++ l) (puts_on o (after_call o r call) calls more)
    ∙ sym (append_assoc (text_of_put (disk_answer o r call).put) (puts_from o (after_call o r call) calls) (puts_from o (fold (after_call o) (after_call o r call) calls) more))

puts_then : (o : SessionNumbers) (calls : List DiskCall) (call : DiskCall) → puts_from o (reading o calls) (call_then o nothing_read calls call) ≡ said_to o calls call
unfolding call_then
puts_then o calls call = by (ended_from o nothing_read calls) (is_call (reading o calls) call)
  where
    by : (b c : Bool) → puts_from o (reading o calls) (if b then [] else (if c then call ∷ [] else [])) ≡ (if b then [] else (if c then text_of_put (disk_answer o (reading o calls) call).put else []))
    by true c = refl
    by false true = append-nil (text_of_put (disk_answer o (reading o calls) call).put)
    by false false = refl

-- what is said to what comes
pub said_on : (o : SessionNumbers) (comes : List DiskCall) (call : DiskCall)
    → puts_from o nothing_read (taken_from o nothing_read (comes ++ call ∷ [])) ≡ puts_from o nothing_read (taken_from o nothing_read comes) ++ said_to o (taken_from o nothing_read comes) call
said_on o comes call =
    ap (puts_from o nothing_read) (taken_on o nothing_read comes call)
    ∙ puts_on o nothing_read (taken_from o nothing_read comes) (call_then o nothing_read (taken_from o nothing_read comes) call)
    ∙ ap (λ l. puts_from o nothing_read (taken_from o nothing_read comes) ++ l) (puts_then o (taken_from o nothing_read comes) call)

-- the end of calls that hadn't ended is that of the ones after them
over_on : (o : SessionNumbers) (r : DiskReading) (calls more : List DiskCall) → ended_from o r calls ≡ false → over_from o r (calls ++ more) ≡ over_from o (fold (after_call o) r calls) more
over_on o r [] more e = refl
over_on o r (call ∷ calls) more e =
    let parts = or_parts (is_some (disk_answer o r call).over) (ended_from o (after_call o r call) calls) e in
    by (disk_answer o r call).over parts.0 ∙ over_on o (after_call o r call) calls more parts.1
  where
    by : (over : Option Cause) → is_some over ≡ false → option_or over (over_from o (after_call o r call) (calls ++ more)) ≡ over_from o (after_call o r call) (calls ++ more)
    by None off = refl
    by (Some cause) off = absurd cc

-- what comes to calls that hadn't ended
then_lives : (o : SessionNumbers) (calls : List DiskCall) (call : DiskCall) → session_has_ended o calls ≡ false → call_then o nothing_read calls call ≡ (if is_call (reading o calls) call then call ∷ [] else [])
unfolding call_then
then_lives o calls call e = ap (λ b. if b then [] else (if is_call (reading o calls) call then call ∷ [] else [])) e

pub taken_then : (o : SessionNumbers) (comes : List DiskCall) (call : DiskCall) → session_has_ended o (taken_from o nothing_read comes) ≡ false
    → taken_from o nothing_read (comes ++ call ∷ []) ≡ taken_from o nothing_read comes ++ (if is_call (reading o (taken_from o nothing_read comes)) call then call ∷ [] else [])
taken_then o comes call e = taken_on o nothing_read comes call ∙ ap (λ (l : List DiskCall). taken_from o nothing_read comes ++ l) (then_lives o (taken_from o nothing_read comes) call e)

pub part_ends : (o : SessionNumbers) (comes : List DiskCall) (part : DiskCall) → ((r : DiskReading) → is_call r part ≡ true) → session_has_ended o (taken_from o nothing_read comes) ≡ false
    → over_from o nothing_read (taken_from o nothing_read (comes ++ part ∷ [])) ≡ (disk_answer o (reading o (taken_from o nothing_read comes)) part).over
part_ends o comes part is lives =
    let one = ap (λ b. if b then part ∷ [] else []) (is (reading o (taken_from o nothing_read comes))) in
    ap (over_from o nothing_read) (taken_then o comes part lives ∙ ap (λ (l : List DiskCall). taken_from o nothing_read comes ++ l) one)
    ∙ over_on o nothing_read (taken_from o nothing_read comes) (part ∷ []) lives
    ∙ or_none (disk_answer o (reading o (taken_from o nothing_read comes)) part).over
  where
    or_none : (over : Option Cause) → option_or over None ≡ over
    or_none None = refl
    or_none (Some cause) = refl
