-- What tgtd 1.0.85 and an initiator said to one another (tests/iscsi/plain.txt), up to its first read, by computing.
use Rattle.std.proofs.Common.{◌≡◌, ℕ, List, [], ◌∷◌, ◌++◌, replicate, codes, Some, None, false, refl}
use Rattle.nb_iscsipdu.specs.Heads.{word_at}
use Rattle.nb_iscsipdu.specs.Answers.{answer_read}
use Rattle.nb_iscsipdu.specs.PduTexts.{pdu_text}
use Rattle.nb_iscsipdu.specs.Requests.{head_of, login_pdu, command_pdu}
use Rattle.nb_login.specs.Asking.{names_keys, parameter_keys, request_parts, login_text}
use Rattle.nb_login.specs.LoginVerdicts.{by_response, has_digest, has_other_value, chooses_chap, has_value, names_method}
use Rattle.nb_login.specs.declared.info.LoginInfo.{LoginInfo}
use Rattle.nb_sans.specs.Sessions.{ReadTask, session_says, session_chap, session_capacity, session_end, task_answers, blocks_read}

info : LoginInfo
info = record {
  initiator = codes "iqn.2026-11.lan.boot:client";
  target = codes "iqn.2026-11.lan.boot:disk";
  lun = 0 ∷ 1 ∷ replicate 6 0;
  user = [];
  secret = [];
  reverse_user = [];
  reverse_secret = [];
  words = 0 ∷ 0x123456 ∷ replicate 6 0;
}

key : List ℕ → List ℕ
key text = text ++ 0 ∷ []

-- ---- what the target said

-- the names are answered
their_methods : List ℕ
unfolding key
their_methods = (0x23 ∷ 0x81 ∷ 0 ∷ 0 ∷ 0 ∷ 0 ∷ 0 ∷ 0x38 ∷ 0x80 ∷ 0x12 ∷ 0x34 ∷ 0x56 ∷ 0 ∷ 0 ∷ 0 ∷ 0 ∷ 0 ∷ 0 ∷ 0 ∷
    1 ∷ 0 ∷ 0 ∷ 0 ∷ 0 ∷ 0 ∷ 0 ∷ 0 ∷ 0 ∷ 0 ∷ 0 ∷ 0 ∷ 1 ∷ 0 ∷ 0 ∷ 0 ∷ 0x20 ∷ 0 ∷ 0 ∷ 0 ∷ 0 ∷ 0 ∷ 0 ∷
    0 ∷ 0 ∷ 0 ∷ 0 ∷ 0 ∷ 0 ∷ [])
    ++ (key (codes "TargetAlias=disk")
    ++ (key (codes "TargetPortalGroupTag=1")
    ++ (key (codes "AuthMethod=None"))))

-- the parameters are
their_parameters : List ℕ
unfolding key
their_parameters = (0x23 ∷ 0x87 ∷ 0 ∷ 0 ∷ 0 ∷ 0 ∷ 1 ∷ 0x1a ∷ 0x80 ∷ 0x12 ∷ 0x34 ∷ 0x56 ∷ 0 ∷ 0 ∷ 0 ∷ 1 ∷ 0 ∷ 0 ∷ 0 ∷
    1 ∷ 0 ∷ 0 ∷ 0 ∷ 0 ∷ 0 ∷ 0 ∷ 0 ∷ 1 ∷ 0 ∷ 0 ∷ 0 ∷ 1 ∷ 0 ∷ 0 ∷ 0 ∷ 0x20 ∷ 0 ∷ 0 ∷ 0 ∷ 0 ∷ 0 ∷ 0 ∷
    0 ∷ 0 ∷ 0 ∷ 0 ∷ 0 ∷ 0 ∷ [])
    ++ (key (codes "HeaderDigest=None")
    ++ (key (codes "DataDigest=None")
    ++ (key (codes "MaxConnections=1")
    ++ (key (codes "InitialR2T=Yes")
    ++ (key (codes "ImmediateData=No")
    ++ (key (codes "MaxRecvDataSegmentLength=8192")
    ++ (key (codes "MaxBurstLength=262144")
    ++ (key (codes "FirstBurstLength=65536")
    ++ (key (codes "DefaultTime2Wait=2")
    ++ (key (codes "DefaultTime2Retain=0")
    ++ (key (codes "MaxOutstandingR2T=1")
    ++ (key (codes "DataPDUInOrder=Yes")
    ++ (key (codes "DataSequenceInOrder=Yes")
    ++ (key (codes "ErrorRecoveryLevel=0")
    ++ (0 ∷ []
    ++ (0 ∷ []))))))))))))))))

-- a check condition, with its sense data
their_check_condition : List ℕ
their_check_condition = (0x21 ∷ 0x80 ∷ 0 ∷ 2 ∷ 0 ∷ 0 ∷ 0 ∷ 0x14 ∷ 0 ∷ 0 ∷ 0 ∷ 0 ∷ 0 ∷ 0 ∷ 0 ∷ 0 ∷ 0 ∷ 0 ∷ 0 ∷ 2 ∷ 0 ∷ 0 ∷
    0 ∷ 0 ∷ 0 ∷ 0 ∷ 0 ∷ 2 ∷ 0 ∷ 0 ∷ 0 ∷ 2 ∷ 0 ∷ 0 ∷ 0 ∷ 0x21 ∷ 0 ∷ 0 ∷ 0 ∷ 0 ∷ 0 ∷ 0 ∷ 0 ∷ 0 ∷ 0 ∷
    0 ∷ 0 ∷ 0 ∷ [])
    ++ (0 ∷ 0x12 ∷ 0xf0 ∷ 0 ∷ 6 ∷ 0 ∷ 0 ∷ 0 ∷ 0 ∷ 0xa ∷ 0 ∷ 0 ∷ 0 ∷ 0 ∷ 0x29 ∷ 0 ∷ 0 ∷ 0 ∷ 0 ∷ 0 ∷ [])

-- ready
their_ready : List ℕ
their_ready = 0x21 ∷ 0x80 ∷ 0 ∷ 0 ∷ 0 ∷ 0 ∷ 0 ∷ 0 ∷ 0 ∷ 0 ∷ 0 ∷ 0 ∷ 0 ∷ 0 ∷ 0 ∷ 0 ∷ 0 ∷ 0 ∷ 0 ∷ 3 ∷ 0 ∷ 0 ∷ 0 ∷
    0 ∷ 0 ∷ 0 ∷ 0 ∷ 3 ∷ 0 ∷ 0 ∷ 0 ∷ 3 ∷ 0 ∷ 0 ∷ 0 ∷ 0x22 ∷ 0 ∷ 0 ∷ 0 ∷ 0 ∷ 0 ∷ 0 ∷ 0 ∷ 0 ∷ 0 ∷ 0 ∷
    0 ∷ 0 ∷ []

-- 2,048 blocks
their_size : List ℕ
their_size = (0x25 ∷ 0x81 ∷ 0 ∷ 0 ∷ 0 ∷ 0 ∷ 0 ∷ 8 ∷ 0 ∷ 0 ∷ 0 ∷ 0 ∷ 0 ∷ 0 ∷ 0 ∷ 0 ∷ 0 ∷ 0 ∷ 0 ∷ 4 ∷ 0xff ∷ 0xff ∷
    0xff ∷ 0xff ∷ 0 ∷ 0 ∷ 0 ∷ 4 ∷ 0 ∷ 0 ∷ 0 ∷ 4 ∷ 0 ∷ 0 ∷ 0 ∷ 0x23 ∷ 0 ∷ 0 ∷ 0 ∷ 0 ∷ 0 ∷ 0 ∷ 0 ∷
    0 ∷ 0 ∷ 0 ∷ 0 ∷ 0 ∷ [])
    ++ (0 ∷ 0 ∷ 7 ∷ 0xff ∷ 0 ∷ 0 ∷ 2 ∷ 0 ∷ [])

-- a NOP-In that asks for no answer
their_ping : List ℕ
their_ping = 0x20 ∷ 0x80 ∷ 0 ∷ 0 ∷ 0 ∷ 0 ∷ 0 ∷ 0 ∷ 0 ∷ 0 ∷ 0 ∷ 0 ∷ 0 ∷ 0 ∷ 0 ∷ 0 ∷ 0xff ∷ 0xff ∷ 0xff ∷ 0xff ∷
    0xff ∷ 0xff ∷ 0xff ∷ 0xff ∷ 0 ∷ 0 ∷ 0 ∷ 5 ∷ 0 ∷ 0 ∷ 0 ∷ 4 ∷ 0 ∷ 0 ∷ 0 ∷ 0x23 ∷ 0 ∷ 0 ∷ 0 ∷ 0 ∷
    0 ∷ 0 ∷ 0 ∷ 0 ∷ 0 ∷ 0 ∷ 0 ∷ 0 ∷ []

-- the head of a Data-In of one block, with good status
their_first_block : List ℕ
their_first_block = 0x25 ∷ 0x81 ∷ 0 ∷ 0 ∷ 0 ∷ 0 ∷ 2 ∷ 0 ∷ 0 ∷ 0 ∷ 0 ∷ 0 ∷ 0 ∷ 0 ∷ 0 ∷ 0 ∷ 0 ∷ 0 ∷ 0 ∷ 5 ∷ 0xff ∷ 0xff ∷
    0xff ∷ 0xff ∷ 0 ∷ 0 ∷ 0 ∷ 5 ∷ 0 ∷ 0 ∷ 0 ∷ 5 ∷ 0 ∷ 0 ∷ 0 ∷ 0x24 ∷ 0 ∷ 0 ∷ 0 ∷ 0 ∷ 0 ∷ 0 ∷ 0 ∷
    0 ∷ 0 ∷ 0 ∷ 0 ∷ 0 ∷ []

-- ---- what the initiator said

-- the names
our_names : List ℕ
unfolding key
our_names = (0x43 ∷ 0x81 ∷ 0 ∷ 0 ∷ 0 ∷ 0 ∷ 0 ∷ 0x72 ∷ 0x80 ∷ 0x12 ∷ 0x34 ∷ 0x56 ∷ 0 ∷ 0 ∷ 0 ∷ 0 ∷ 0 ∷ 0 ∷ 0 ∷
    1 ∷ 0 ∷ 0 ∷ 0 ∷ 0 ∷ 0 ∷ 0 ∷ 0 ∷ 1 ∷ 0 ∷ 0 ∷ 0 ∷ 0 ∷ 0 ∷ 0 ∷ 0 ∷ 0 ∷ 0 ∷ 0 ∷ 0 ∷ 0 ∷ 0 ∷ 0 ∷ 0 ∷
    0 ∷ 0 ∷ 0 ∷ 0 ∷ 0 ∷ [])
    ++ (key (codes "InitiatorName=iqn.2026-11.lan.boot:client")
    ++ (key (codes "TargetName=iqn.2026-11.lan.boot:disk")
    ++ (key (codes "SessionType=Normal")
    ++ (key (codes "AuthMethod=None")
    ++ (0 ∷ []
    ++ (0 ∷ []))))))

-- the parameters
our_parameters : List ℕ
unfolding key
our_parameters = (0x43 ∷ 0x87 ∷ 0 ∷ 0 ∷ 0 ∷ 0 ∷ 1 ∷ 0x1a ∷ 0x80 ∷ 0x12 ∷ 0x34 ∷ 0x56 ∷ 0 ∷ 0 ∷ 0 ∷ 0 ∷ 0 ∷ 0 ∷ 0 ∷
    1 ∷ 0 ∷ 0 ∷ 0 ∷ 0 ∷ 0 ∷ 0 ∷ 0 ∷ 1 ∷ 0 ∷ 0 ∷ 0 ∷ 1 ∷ 0 ∷ 0 ∷ 0 ∷ 0 ∷ 0 ∷ 0 ∷ 0 ∷ 0 ∷ 0 ∷ 0 ∷ 0 ∷
    0 ∷ 0 ∷ 0 ∷ 0 ∷ 0 ∷ [])
    ++ (key (codes "HeaderDigest=None")
    ++ (key (codes "DataDigest=None")
    ++ (key (codes "MaxConnections=1")
    ++ (key (codes "InitialR2T=Yes")
    ++ (key (codes "ImmediateData=No")
    ++ (key (codes "MaxRecvDataSegmentLength=8192")
    ++ (key (codes "MaxBurstLength=262144")
    ++ (key (codes "FirstBurstLength=65536")
    ++ (key (codes "DefaultTime2Wait=0")
    ++ (key (codes "DefaultTime2Retain=0")
    ++ (key (codes "MaxOutstandingR2T=1")
    ++ (key (codes "DataPDUInOrder=Yes")
    ++ (key (codes "DataSequenceInOrder=Yes")
    ++ (key (codes "ErrorRecoveryLevel=0")
    ++ (0 ∷ []
    ++ (0 ∷ []))))))))))))))))

-- TEST UNIT READY
our_first_test : List ℕ
our_first_test = 1 ∷ 0x81 ∷ 0 ∷ 0 ∷ 0 ∷ 0 ∷ 0 ∷ 0 ∷ 0 ∷ 1 ∷ 0 ∷ 0 ∷ 0 ∷ 0 ∷ 0 ∷ 0 ∷ 0 ∷ 0 ∷ 0 ∷ 2 ∷ 0 ∷ 0 ∷ 0 ∷ 0 ∷
    0 ∷ 0 ∷ 0 ∷ 1 ∷ 0 ∷ 0 ∷ 0 ∷ 2 ∷ 0 ∷ 0 ∷ 0 ∷ 0 ∷ 0 ∷ 0 ∷ 0 ∷ 0 ∷ 0 ∷ 0 ∷ 0 ∷ 0 ∷ 0 ∷ 0 ∷ 0 ∷ 0 ∷ []

-- and again
our_second_test : List ℕ
our_second_test = 1 ∷ 0x81 ∷ 0 ∷ 0 ∷ 0 ∷ 0 ∷ 0 ∷ 0 ∷ 0 ∷ 1 ∷ 0 ∷ 0 ∷ 0 ∷ 0 ∷ 0 ∷ 0 ∷ 0 ∷ 0 ∷ 0 ∷ 3 ∷ 0 ∷ 0 ∷ 0 ∷ 0 ∷
    0 ∷ 0 ∷ 0 ∷ 2 ∷ 0 ∷ 0 ∷ 0 ∷ 3 ∷ 0 ∷ 0 ∷ 0 ∷ 0 ∷ 0 ∷ 0 ∷ 0 ∷ 0 ∷ 0 ∷ 0 ∷ 0 ∷ 0 ∷ 0 ∷ 0 ∷ 0 ∷ 0 ∷ []

-- READ CAPACITY(10)
our_size : List ℕ
our_size = 1 ∷ 0xc1 ∷ 0 ∷ 0 ∷ 0 ∷ 0 ∷ 0 ∷ 0 ∷ 0 ∷ 1 ∷ 0 ∷ 0 ∷ 0 ∷ 0 ∷ 0 ∷ 0 ∷ 0 ∷ 0 ∷ 0 ∷ 4 ∷ 0 ∷ 0 ∷ 0 ∷ 8 ∷
    0 ∷ 0 ∷ 0 ∷ 3 ∷ 0 ∷ 0 ∷ 0 ∷ 4 ∷ 0x25 ∷ 0 ∷ 0 ∷ 0 ∷ 0 ∷ 0 ∷ 0 ∷ 0 ∷ 0 ∷ 0 ∷ 0 ∷ 0 ∷ 0 ∷ 0 ∷ 0 ∷
    0 ∷ []

-- READ(10) of block 0
our_read : List ℕ
our_read = 1 ∷ 0xc1 ∷ 0 ∷ 0 ∷ 0 ∷ 0 ∷ 0 ∷ 0 ∷ 0 ∷ 1 ∷ 0 ∷ 0 ∷ 0 ∷ 0 ∷ 0 ∷ 0 ∷ 0 ∷ 0 ∷ 0 ∷ 5 ∷ 0 ∷ 0 ∷ 2 ∷ 0 ∷
    0 ∷ 0 ∷ 0 ∷ 4 ∷ 0 ∷ 0 ∷ 0 ∷ 5 ∷ 0x28 ∷ 0 ∷ 0 ∷ 0 ∷ 0 ∷ 0 ∷ 0 ∷ 0 ∷ 1 ∷ 0 ∷ 0 ∷ 0 ∷ 0 ∷ 0 ∷ 0 ∷
    0 ∷ []

-- ---- the reading

before : List ℕ
unfolding their_methods their_parameters their_check_condition their_ready their_size key
before = their_methods ++ (their_parameters ++ (their_check_condition ++ (their_ready ++ their_size)))

-- the block is all zeros
all : List ℕ
unfolding before their_ping their_first_block
all = before ++ (their_ping ++ (their_first_block ++ replicate 512 0))

read_first : List (ReadTask × ℕ)
read_first = (record { lba = 0; blocks = 1 }, 608) ∷ []

opened : session_chap info all ≡ Some 0
unfolding key info read_first all before their_methods their_parameters their_check_condition their_ready their_size their_ping their_first_block word_at answer_read by_response has_digest has_other_value chooses_chap has_value names_method
opened = refl

sized : session_capacity info all read_first ≡ Some 2048
unfolding key info read_first all before their_methods their_parameters their_check_condition their_ready their_size their_ping their_first_block word_at answer_read by_response has_digest has_other_value chooses_chap has_value names_method
sized = refl

answered : task_answers info all read_first ≡ blocks_read (replicate 512 0) ∷ []
unfolding key info read_first all before their_methods their_parameters their_check_condition their_ready their_size their_ping their_first_block word_at answer_read by_response has_digest has_other_value chooses_chap has_value names_method
answered = refl

goes_on : session_end 9 info all false read_first ≡ None
unfolding key info read_first all before their_methods their_parameters their_check_condition their_ready their_size their_ping their_first_block word_at answer_read by_response has_digest has_other_value chooses_chap has_value names_method
goes_on = refl

-- it says what the initiator said
said : session_says info before false read_first ≡ our_names ++ (our_parameters ++ (our_first_test ++ (our_second_test ++ (our_size ++ our_read))))
unfolding key info read_first all before their_methods their_parameters their_check_condition their_ready their_size their_ping their_first_block word_at answer_read by_response has_digest has_other_value chooses_chap has_value names_method our_names our_parameters our_first_test our_second_test our_size our_read pdu_text head_of login_pdu command_pdu names_keys parameter_keys request_parts login_text
said = refl
