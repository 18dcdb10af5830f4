use Rattle.nb_login.proofs.SecretLaws.{secret_hidden, reverse_hidden}
use Rattle.nb_login.proofs.laws.secrets_are_not_sent.Goals as goal

pub returns-clause-own : goal.returns-clause-own
returns-clause-own c = secret_hidden

pub returns-clause-reverse : goal.returns-clause-reverse
returns-clause-reverse c = reverse_hidden
