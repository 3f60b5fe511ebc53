-- Talks one after another are one.
use Rattle.std.proofs.Common.{◌≡◌, ℕ, Bool, true, false, List, [], ◌∷◌, ◌++◌, inl, inr, refl, sym, ap, subst, append_assoc, append-nil, Result, Ok, Err, drop, length}
use Rattle.std.proofs.lemmas.Bool.{false≢true}
use Rattle.std.specs.Io.KnownBytes.{Appends, Consumes}
use Rattle.std.proofs.KnownBytes.{Appends-nil, Appends-trans, Consumes-nil, Consumes-trans}
use Rattle.std.specs.Prelude.{Option, OnOk}
use Rattle.mqtt5_inflight.specs.declared.event.Request.{Request}
use Rattle.mqtt5_session.specs.Session.{Session}
use Rattle.mqtt5_drive.specs.Run.{piece}
use Rattle.mqtt5_drive.specs.Limit.{codec_after}
use Rattle.mqtt5_client.specs.declared.client.Client.{Client}
use Rattle.mqtt5_pipe.specs.declared.error.PipeError.{PipeError}
use Rattle.mqtt5_pipe.specs.Pipe.{Leaves}
use Rattle.mqtt5_inflight.specs.declared.event.Request.TheVariants as requests
use Rattle.mqtt5_talk.specs.Conversation.{Saying, Opens, Asks, Heard, Requested, Conversation, Begins, Hears, Requests, Writes, Puts, Takes, WithPings, Ends, Says, Pings, Talked, SendsOnly}

-- the same talk, with its lists written otherwise
pub reindex : (p q : Client) (said said' : List Saying) (came came' sent sent' : List ℕ) → said ≡ said' → came ≡ came' → sent ≡ sent' → Conversation p said came sent q → Conversation p said' came' sent' q
reindex p q said said' came came' sent sent' a b c t =
    subst (λ (x : List ℕ). Conversation p said' came' x q) c (subst (λ (x : List ℕ). Conversation p said' x sent q) b (subst (λ (x : List Saying). Conversation p x came sent q) a t))

pub join : (p q r : Client) (said said' : List Saying) (came came' sent sent' : List ℕ) → Conversation p said came sent q → Conversation q said' came' sent' r → Conversation p (said ++ said') (came ++ came') (sent ++ sent') r
join p q r said said' came came' sent sent' t Begins =
    reindex p q said (said ++ []) came (came ++ []) sent (sent ++ []) (sym (append-nil said)) (sym (append-nil came)) (sym (append-nil sent)) t
join p q r said said' came came' sent sent' t (Hears s c b bytes more x y at u l) =
    reindex p r (said ++ s) (said ++ s) ((came ++ c) ++ bytes) (came ++ (c ++ bytes)) ((sent ++ b) ++ more) (sent ++ (b ++ more))
    refl (append_assoc came c bytes) (append_assoc sent b more)
    (Hears (said ++ s) (came ++ c) (sent ++ b) bytes more x r at (join p q x said s came c sent b t u) l)
join p q r said said' came came' sent sent' t (Requests s c b x y at request u l) =
    reindex p r ((said ++ s) ++ Asks request ∷ []) (said ++ (s ++ Asks request ∷ [])) (came ++ c) (came ++ c) (sent ++ b) (sent ++ b)
    (append_assoc said s (Asks request ∷ [])) refl refl
    (Requests (said ++ s) (came ++ c) (sent ++ b) x r at request (join p q x said s came c sent b t u) l)
join p q r said said' came came' sent sent' t (Writes s c b more x y u o w) =
    reindex p r (said ++ s) (said ++ s) (came ++ c) (came ++ c) ((sent ++ b) ++ more) (sent ++ (b ++ more))
    refl refl (append_assoc sent b more)
    (Writes (said ++ s) (came ++ c) (sent ++ b) more x r (join p q x said s came c sent b t u) o w)
join p q r said said' came came' sent sent' t (Puts s c b bytes x y connect u e o w) =
    reindex p r ((said ++ s) ++ Opens connect ∷ []) (said ++ (s ++ Opens connect ∷ [])) (came ++ c) (came ++ c) (sent ++ b) (sent ++ b)
    (append_assoc said s (Opens connect ∷ [])) refl refl
    (Puts (said ++ s) (came ++ c) (sent ++ b) bytes x r connect (join p q x said s came c sent b t u) e o w)
join p q r said said' came came' sent sent' t (Takes s c b x u) =
    Takes (said ++ s) (came ++ c) (sent ++ b) x (join p q x said s came c sent b t u)

-- all that was said, and no ping
pub unpinged : (pings : Bool) (said : List Saying) → WithPings pings said said
unpinged pings [] = Ends
unpinged pings (word ∷ said) = Says word said said (unpinged pings said)

pub join_pings : (pings : Bool) (said words said' words' : List Saying) → WithPings pings said words → WithPings pings said' words' → WithPings pings (said ++ said') (words ++ words')
join_pings pings said words said' words' Ends h = h
join_pings pings said words said' words' (Says word s w t) h = Says word (s ++ said') (w ++ words') (join_pings pings s w said' words' t h)
join_pings pings said words said' words' (Pings s w on t) h = Pings (said ++ said') (w ++ words') on (join_pings pings said w said' words' t h)

-- where there are none, nothing but that was said
pub no_pings : (said words : List Saying) → WithPings false said words → words ≡ said
no_pings said words Ends = refl
no_pings said words (Says word s w t) = ap (λ (l : List Saying). word ∷ l) (no_pings s w t)
no_pings said words (Pings s w on t) = absurd (false≢true on)

pub any_pings : (pings : Bool) (said words : List Saying) → WithPings false said words → WithPings pings said words
any_pings pings said words t = subst (λ (l : List Saying). WithPings pings said l) (sym (no_pings said words t)) (unpinged pings said)

-- a turn
heard : {T : Type 0} (result : Result T PipeError) (p : Client) (at : ℕ) (came sent : List ℕ) (q : Client) → Leaves result p (piece at came ∷ []) sent q
    → q.codec ≡ codec_after (drop (length p.state.events) q.state.events) p.codec → Heard p at came sent q
heard (Ok x) p at came sent q h k = (inl h.0, k)
heard (Err fault) p at came sent q h k = (inr (fault, h), k)

pub as_turned : {T : Type 0} {k : Bool} (a b x y : Option (List ℕ)) (result : Result T PipeError) (p q : Client) (came sent : List ℕ)
    → Consumes a b came → Appends x y sent → Leaves result p (piece 0 came ∷ []) sent q
    → q.codec ≡ codec_after (drop (length p.state.events) q.state.events) p.codec → Talked k a b x y p [] q
as_turned a b x y result p q came sent consumed appended h k =
    record { words = []; all = Ends; came = came; sent = sent; consumed = consumed; appended = appended; talks = Hears [] [] [] came sent p q 0 Begins (heard result p 0 came sent q h k) }

-- a request
pub requested : (p q : Client) (request : Request) → Requested p 0 request q → Conversation p (Asks request ∷ []) [] [] q
requested p q request h = Requests [] [] [] p q 0 request Begins h

-- a write
pub as_sent : (x y : Option (List ℕ)) (p q : Client) (sent : List ℕ) → Appends x y sent → p.output.items ≡ sent ++ q.output.items → q ≡ record p { output = q.output } → SendsOnly x y p [] q
as_sent x y p q sent appended split kept = record { sent = sent; appended = appended; talks = Writes [] [] [] sent p q Begins split kept }

-- an event is taken out
pub took : (p : Client) (s : Session) → s ≡ record p.state { events = drop 1 p.state.events } → Conversation p [] [] [] (record p { state = s })
took p s e = subst (λ (t : Session). Conversation p [] [] [] (record p { state = t })) (sym e) (Takes [] [] [] p Begins)

module _ {k : Bool} (a b c : Option (List ℕ)) (x y z : Option (List ℕ)) (p q r : Client) (said more : List Saying) where
  pub then_talked : Talked k a b x y p said q → Talked k b c y z q more r → Talked k a c x z p (said ++ more) r
  then_talked t u = record {
    words = t.words ++ u.words;
    all = join_pings k said t.words more u.words t.all u.all;
    came = t.came ++ u.came;
    sent = t.sent ++ u.sent;
    consumed = Consumes-trans a b c t.came u.came t.consumed u.consumed;
    appended = Appends-trans x y z t.sent u.sent t.appended u.appended;
    talks = join p q r t.words u.words t.came u.came t.sent u.sent t.talks u.talks;
  }

-- nothing was said then
module _ {k : Bool} (a b c : Option (List ℕ)) (x y z : Option (List ℕ)) (p q r : Client) (said : List Saying) where
  pub then_silent : Talked k a b x y p said q → Talked k b c y z q [] r → Talked k a c x z p said r
  then_silent t u = subst (λ (s : List Saying). Talked k a c x z p s r) (append-nil said) (then_talked a b c x y z p q r said [] t u)

module _ (x y z : Option (List ℕ)) (p q r : Client) (said more : List Saying) where
  pub then_told : SendsOnly x y p said q → SendsOnly y z q more r → SendsOnly x z p (said ++ more) r
  then_told t u = record {
    sent = t.sent ++ u.sent;
    appended = Appends-trans x y z t.sent u.sent t.appended u.appended;
    talks = join p q r said more [] [] t.sent u.sent t.talks u.talks;
  }

-- a talk without pings is one with them
pub with_pings : (k : Bool) (a b x y : Option (List ℕ)) (p q : Client) (said : List Saying) → Talked false a b x y p said q → Talked k a b x y p said q
with_pings k a b x y p q said t =
    record { words = t.words; all = any_pings k said t.words t.all; came = t.came; sent = t.sent; consumed = t.consumed; appended = t.appended; talks = t.talks }

-- nothing was said, read and written
pub no_talk : {k : Bool} (a x : Option (List ℕ)) (p : Client) → Talked k a a x x p [] p
no_talk a x p = record { words = []; all = Ends; came = []; sent = []; consumed = Consumes-nil a; appended = Appends-nil x; talks = Begins }

pub nothing_told : (x : Option (List ℕ)) (p : Client) → SendsOnly x x p [] p
nothing_told x p = record { sent = []; appended = Appends-nil x; talks = Begins }

-- nothing was read
pub as_talked : {k : Bool} (a x y : Option (List ℕ)) (p q : Client) (said : List Saying) → SendsOnly x y p said q → Talked k a a x y p said q
as_talked {k} a x y p q said t = record { words = said; all = unpinged k said; came = []; sent = t.sent; consumed = Consumes-nil a; appended = t.appended; talks = t.talks }

-- nothing was read and written
pub silent : {k : Bool} (a x : Option (List ℕ)) (p q : Client) (said : List Saying) → Conversation p said [] [] q → Talked k a a x x p said q
silent {k} a x p q said t = record { words = said; all = unpinged k said; came = []; sent = []; consumed = Consumes-nil a; appended = Appends-nil x; talks = t }

-- a turn in vain, and a ping
pub then_pinged : (k : Bool) (a b x y z : Option (List ℕ)) (p q r : Client) → k ≡ true → Talked false a b x y p [] q → SendsOnly y z q (Asks requests.PingReq ∷ []) r → Talked k a b x z p [] r
then_pinged k a b x y z p q r on t u = then_talked a b b x y z p q r [] [] (with_pings k a b x y p q [] t)
    (record { words = Asks requests.PingReq ∷ []; all = Pings [] [] on Ends; came = []; sent = u.sent; consumed = Consumes-nil b; appended = u.appended; talks = u.talks })

pub silent_told : (x : Option (List ℕ)) (p q : Client) (said : List Saying) → Conversation p said [] [] q → SendsOnly x x p said q
silent_told x p q said t = record { sent = []; appended = Appends-nil x; talks = t }

-- what holds in any case
pub on_ok_also : {T E : Type 0} (result : Result T E) (P : Type 0) → P → OnOk result P
on_ok_also (Ok x) P h = h
on_ok_also (Err e) P h = tt
