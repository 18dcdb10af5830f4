-- Of an honest server a response that is decided is that of its entry.
use Rattle.std.proofs.Common.{◌≡◌, ◌≢◌, ℕ, Bool, true, false, List, ◌++◌, refl, ap, ◌∙◌, sym, subst}
use Rattle.nb_streams.specs.Streams.{front, has_ended, IsPrefixOf}
use Rattle.nb_streams.specs.Flows.{TcpCall, held_after}
use Rattle.nb_streams.proofs.FlowLaws.{front_is_streams, ended_is_whole}
use Rattle.nb_responses.specs.Chunks.{more, body, Response, response}
use Rattle.nb_readings.specs.Readings.{response_read}
use Rattle.nb_readings.proofs.ReadingLemmas.{reading_stays}
use Rattle.nb_webs.specs.Webs.{response_come}
use Rattle.nb_webs.specs.Entries.{StoreEntry, file, IsOfEntry, of_file, ServesEntry}

-- a decided response of a part of a stream is the stream's, where the part is all of it once it has ended
same_of : (stream part : List ℕ) (ended : Bool) → IsPrefixOf part stream → (ended ≡ true → part ≡ stream) → (response_read part ended).verdict ≢ more
    → response_read part ended ≡ response_read stream true
same_of stream part true (rest, is) whole decided = ap (λ s. response_read s true) (whole refl)
same_of stream part false (rest, is) whole decided = sym (reading_stays part rest true decided) ∙ ap (λ s. response_read s true) (sym is)

pub theirs : (entry : StoreEntry) (isn : ℕ) (calls : List TcpCall) → ServesEntry entry isn calls → (response_come isn calls).verdict ≢ more → IsOfEntry (response_come isn calls) entry
theirs entry isn calls s decided =
    let same : response_come isn calls ≡ response_read s.stream true = same_of s.stream (front (held_after isn calls)) (has_ended (held_after isn calls))
    (front_is_streams s.stream isn calls s.carries.carried) (λ only_if. ended_is_whole s.stream isn calls s.carries.carried only_if) decided in
    subst (λ (r : Response). IsOfEntry r entry) (sym same) s.serves

file_of : (r : Response) (bytes : List ℕ) → IsOfEntry r (file bytes) → r ≡ response body bytes
file_of r bytes (of_file _) = refl

pub files : (bytes : List ℕ) (isn : ℕ) (calls : List TcpCall) → ServesEntry (file bytes) isn calls → (response_come isn calls).verdict ≢ more → response_come isn calls ≡ response body bytes
files bytes isn calls s decided = file_of (response_come isn calls) bytes (theirs (file bytes) isn calls s decided)
