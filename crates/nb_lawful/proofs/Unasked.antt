-- A drive of which nothing was asked has read nothing.
use Rattle.std.proofs.Common.{◌≡◌, ℕ, ◌||◌, false, List, [], ◌∷◌, None, refl, ◌∙◌, ap}
use Rattle.std.specs.List.{list_any}
use Rattle.nb_login.specs.declared.info.LoginInfo.{LoginInfo}
use Rattle.nb_machine.specs.Kinds.{read_last}
use Rattle.nb_machine.specs.Lives.{OpenInput, message, tcp_segment, time, task, close, iscsi, Exchange, Live, continued}
use Rattle.nb_machine.specs.Drives.{first_block_read}
use Rattle.nb_openlaws.specs.Sessions.{is_task, IsUnaskedByCommands}
use Rattle.nb_openlaws.proofs.SessionAnswers.{unread_unasked, unread_asked}
use Rattle.nb_lawful.specs.ScriptAgreement.{IsNoTask, AreUnasked}

no_task : (input : OpenInput) → IsNoTask input → is_task input ≡ false
no_task (message rec port body now) h = refl
no_task (tcp_segment rec g now) h = refl
no_task (time now) h = refl
no_task (task t now) h = absurd h
no_task (close cause) h = refl

pub unasked_so : (xs : List Exchange) → AreUnasked xs → IsUnaskedByCommands xs
unasked_so [] h = refl
unasked_so (x ∷ xs) h = ap (λ b. b || list_any (λ (y : Exchange). is_task y.came) xs) (no_task x.came h.0) ∙ unasked_so xs h.1

pub unread_plain : (l : Live) (isn : ℕ) (i : LoginInfo) → l.kind ≡ iscsi isn i → AreUnasked l.exchanges → read_last l ≡ None
unread_plain l isn i kind unasked = unread_unasked l isn i kind (unasked_so l.exchanges unasked)

-- nor has one that is asked for its first block then
pub unread_first : (l : Live) (isn : ℕ) (i : LoginInfo) (x : Exchange) (now : ℕ) → l.kind ≡ iscsi isn i → AreUnasked l.exchanges → x.came ≡ task first_block_read now → read_last (continued l x) ≡ None
unread_first l isn i x now kind unasked came = unread_asked l isn i x now kind (unasked_so l.exchanges unasked) came
