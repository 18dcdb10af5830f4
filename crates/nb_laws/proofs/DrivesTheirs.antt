-- Where servers are honest, what a drive has answered is its server's.
use Rattle.std.proofs.Common.{◌≡◌, ℕ, List, [], ◌∷◌, Option, Some, None, ap}
use Rattle.std.proofs.lemmas.Option.{none-some, same_Some}
use Rattle.std.specs.List.{AllByRecursion}
use Rattle.nb_sans.specs.Sessions.{TaskAnswer, session_chap, session_capacity, tasks_taken, task_answers}
use Rattle.nb_sans.proofs.TargetLaws.{answers_theirs, capacities_theirs}
use Rattle.nb_streams.specs.Streams.{front}
use Rattle.nb_talks.specs.Talking.{talk_held}
use Rattle.nb_machine.specs.Drives.{DriveAnswer, drive_answer, last_answer}
use Rattle.nb_machine.specs.Findings.{first_word}
use Rattle.nb_laws.specs.Drives.{SessionOpening, sessions, session_so_far}
use Rattle.nb_laws.specs.Events.{Event}
use Rattle.nb_laws.specs.HandOff.{Store, ServesSession, IsHonestTo, IsAnsweredBy, AnswerTheirs}
use Rattle.nb_laws.specs.Lists.{hardware, Opening}
use Rattle.nb_laws.proofs.SessionOpenings.{all_so, HoldsOfSession, each_session}

-- of each and each, of each and itself
each_itself : {A : Type 0} (R : A → A → Type 0) (xs : List A) → AllByRecursion (λ x. AllByRecursion (R x) xs) xs → AllByRecursion (λ x. R x x) xs
each_itself R [] h = tt
each_itself R (x ∷ xs) h = (h.0.0, each_itself R xs (all_so (λ y. AllByRecursion (R y) (x ∷ xs)) (λ y. AllByRecursion (R y) xs) xs (λ y both. both.1) h.1))

capacity_of : (server : ℕ) (chap capacity : Option ℕ) (last : Option TaskAnswer) (a : DriveAnswer) → drive_answer server chap capacity last ≡ Some a → capacity ≡ Some a.capacity
capacity_of server None capacity last a e = absurd (none-some a e)
capacity_of server (Some c) None last a e = absurd (none-some a e)
capacity_of server (Some c) (Some n) last a e = ap (λ (z : DriveAnswer). Some z.capacity) (same_Some (record { server = server; chap = c; capacity = n; last = last }) a e)

served_theirs : (store : Store) (es : List Event) (k : ℕ) (s : SessionOpening) → ServesSession (store s.opening.server s.opening.port s.opening.target) es k s → IsAnsweredBy store es k s
served_theirs store es k s h =
    let isn = first_word (hardware es).identity k in
    let d = session_so_far k s es in
    let stream = front (talk_held isn d) in
    record {
      bytes = h.bytes;
      holds = h.holds;
      answers = answers_theirs h.bytes s.login isn d.calls d.tasks h.served;
      capacity = λ a is. capacities_theirs h.bytes s.login isn d.calls d.tasks a.capacity h.whole h.served
          (capacity_of s.opening.server (session_chap s.login stream) (session_capacity s.login stream d.tasks) (last_answer (tasks_taken s.login stream d.tasks) (task_answers s.login stream d.tasks)) a is);
    }

pub drives_theirs : (es : List Event) → AnswerTheirs es
drives_theirs es = λ store honest k.
    let P : Opening → Type 0 = λ o. IsHonestTo (store o.server o.port o.target) es k o in
    let R : SessionOpening → SessionOpening → Type 0 = λ s t. ServesSession (store s.opening.server s.opening.port s.opening.target) es k t in
    all_so (λ s. R s s) (IsAnsweredBy store es k) (sessions k es) (served_theirs store es k)
    (each_itself R (sessions k es) (all_so (HoldsOfSession P) (λ s. AllByRecursion (R s) (sessions k es)) (sessions k es) (λ s of. of.0.session of.1) (each_session P k es (honest k))))
