-- The replay of a reply over a history decides whether the history explains it.
use Rattle.std.proofs.Common.{◌≡◌, ◌≤◌, ◌<◌, ◌^◌, ℕ, suc, true, false, List, [], ◌∷◌, ◌++◌, Some, None, refl, sym, ap, ◌∙◌, subst, arith}
use Rattle.std.specs.List.{AllByRecursion, list_any}
use Rattle.std.proofs.lemmas.Option.{none-some, same_Some}
use Rattle.ts_model.specs.declared.events.Event.{Event}
use Rattle.ts_model.specs.Allowed.{all_allowed}
use Rattle.ts_model.specs.History.{History, base_position, position}
use Rattle.ts_model.specs.Limits.{last_position}
use Rattle.result_text.specs.declared.replies.Said.{Said}
use Rattle.ts_sessions.specs.Looks.{looks_told}
use Rattle.ts_sessions.specs.Made.{made_in}
use Rattle.ts_sessions.specs.Places.{Places, Turn}
use Rattle.ts_sessions.specs.Procedures.{Procedure}
use Rattle.ts_sessions.specs.Replies.{reply_to}
use Rattle.ts_sessions.specs.Script.{text_of}
use Rattle.audit_looks.specs.Replay.{Told, Tells}
use Rattle.audit_looks.specs.ReplayLaws.{IsToldByReply, RepliesTellTheirLooks, ToldIsGiven, ToldOnce}
use Rattle.audit_looks.specs.Laws.{TextsTellLooks}
use Rattle.audit_looks.specs.Replies.{is_line_end, looks_in}
use Rattle.engine_core.proofs.TimelineLaws.{allowed_fits}
use Rattle.transcript.specs.declared.transcripts.Exchange.{Exchange}
use Rattle.audit.specs.Explained.{Came}
use Rattle.audit.specs.Lines.{line_of}
use Rattle.audit.specs.ReplayedReplies.{Leads, Names, Retells}
use Rattle.audit.proofs.RetoldLaws.{TextsTellReplies, leads_more, leads_one, uncons}

-- the laws on which these proofs rely
pub record Laws : Type 0 where
  pub given : ToldIsGiven (Turn Places)
  pub once : ToldOnce (Turn Places)
  pub tell : RepliesTellTheirLooks reply_to
  pub texts : TextsTellLooks

-- the outcome of a replay
abbrev telling : ℕ → List (ℕ × Event) → Turn Places → Told (Turn Places)
telling last given end = record { last = last; given = given; end = end }

-- the line of an exchange, for a session with this state
abbrev pub procedure_of : Places → Exchange → Procedure (Turn Places)
procedure_of p e = reply_to p (line_of e).text (line_of e).skip

few_enough : (n : ℕ) (ps : List ℕ) → n ≤ last_position → AllByRecursion (λ p. p ≤ n) ps → AllByRecursion (λ p. suc p < 2 ^ 64) ps
few_enough n [] few all = tt
few_enough n (p ∷ ps) few all = let le = all.0 in (omega (arith, le, few), few_enough n ps few all.1)

module _ (laws : Laws) (all : History) (allowed : all_allowed all ≡ true) (name : List ℕ) (one_line : list_any is_line_end name ≡ false) where
  -- the positions read from the text of a reply are those that the reply prints
  looks_read : (at : ℕ) (procedure : Procedure (Turn Places)) (last : ℕ) (given : List (ℕ × Event)) (y : Turn Places) → IsToldByReply all at procedure last given y → looks_in name (text_of name y.said) ≡ looks_told y.said
  looks_read at procedure last given y t = laws.texts name y.said one_line (few_enough (position all) (looks_told y.said) (allowed_fits all allowed) t.within)

  -- the outcome of a line by the positions read from its text
  read_told : (at : ℕ) (procedure : Procedure (Turn Places)) (last : ℕ) (given : List (ℕ × Event)) (y : Turn Places) (reply : List ℕ) (t : IsToldByReply all at procedure last given y) → text_of name y.said ≡ reply → Tells all at [] procedure (looks_in name reply) (Some (record { last = last; given = given; end = t.end }))
  read_told at procedure last given y reply t text =
      subst (λ ls. Tells all at [] procedure ls (Some (record { last = last; given = given; end = t.end })))
      (sym (looks_read at procedure last given y t) ∙ ap (looks_in name) text) t.tells

  pub texts_tell : TextsTellReplies all name
  texts_tell at p text skip looks looks_too last last_too given given_too y z low gives gives_too same =
      let procedure = reply_to p text skip in
      let ty = laws.tell all at p text skip looks last given y low gives in
      let tz = laws.tell all at p text skip looks_too last_too given_too z low gives_too in
      let one = laws.once all at [] procedure (looks_in name (text_of name y.said)) _ _ (read_told at procedure last given y (text_of name y.said) ty refl) (read_told at procedure last_too given_too z (text_of name y.said) tz same) in
      let told : telling last given ty.end ≡ telling last_too given_too tz.end = same_Some _ _ one in
      record {
        last_is = sym (ap (λ (t : Told (Turn Places)). t.last) told);
        said = sym tz.said ∙ sym (ap (λ (t : Told (Turn Places)). t.end.said) told) ∙ ty.said;
        places = sym tz.places ∙ sym (ap (λ (t : Told (Turn Places)). t.end.places) told) ∙ ty.places;
      }

  -- ---- one reply

  -- a line had this outcome, and its text is the reply
  pub retold : (e : Exchange) (at : ℕ) (p : Places) (old : List ℕ) (last : ℕ) (given : List (ℕ × Event)) (said : List Said) (read : ℕ) (q : Places) (looks new : List ℕ) → base_position all ≤ at → Tells all at [] (procedure_of p e) looks (Some (record { last = last; given = given; end = record { places = q; said = said; reads = read } })) → text_of name said ≡ e.reply → new ≡ old ++ made_in said → Retells all name e at p old true last q new
  retold e at p old last given said read q looks new low tells text new_is from first before l =
      let told : Told (Turn Places) = record { last = last; given = given; end = record { places = q; said = said; reads = read } } in
      let g = laws.given all at (procedure_of p e) looks told tells in
      let a : Came = record { looks = g.looks; last = last; given = given; end = record { places = q; said = said; reads = read } } in
      subst (λ ns. Leads all name from first (before ++ e ∷ []) last q ns) (sym new_is)
      (leads_more all name from first before at p old (e ∷ []) last q (made_in said) l (leads_one all name at p e a texts_tell low g.gives text))

  -- the replies from here on aren't explained if the history doesn't explain the line
  pub untold : (e : Exchange) (at : ℕ) (p : Places) (looks : List ℕ) → base_position all ≤ at → looks ≡ looks_in name e.reply → Tells all at [] (procedure_of p e) looks None → (found : List ℕ) → Names all at p name (e ∷ []) found → ⊥
  untold e at p looks low read tells found n =
      let u = uncons all at p name e [] n.answers n.explained in
      let t = laws.tell all at p (line_of e).text (line_of e).skip u.first.looks u.first.last u.first.given u.first.end low u.gives in
      let by_text = read_told at (procedure_of p e) u.first.last u.first.given u.first.end e.reply t u.text in
      none-some _ (laws.once all at [] (procedure_of p e) (looks_in name e.reply) _ _ (subst (λ ls. Tells all at [] (procedure_of p e) ls None) read tells) by_text)

  -- the same if its text differs
  pub otherwise : (e : Exchange) (at : ℕ) (p : Places) (looks : List ℕ) (last : ℕ) (given : List (ℕ × Event)) (said : List Said) (read : ℕ) (q : Places) → base_position all ≤ at → looks ≡ looks_in name e.reply → Tells all at [] (procedure_of p e) looks (Some (record { last = last; given = given; end = record { places = q; said = said; reads = read } })) → (text_of name said ≡ e.reply → ⊥) → (found : List ℕ) → Names all at p name (e ∷ []) found → ⊥
  otherwise e at p looks last given said read q low is tells other found n =
      let u = uncons all at p name e [] n.answers n.explained in
      let t = laws.tell all at p (line_of e).text (line_of e).skip u.first.looks u.first.last u.first.given u.first.end low u.gives in
      let by_text = read_told at (procedure_of p e) u.first.last u.first.given u.first.end e.reply t u.text in
      let one = laws.once all at [] (procedure_of p e) (looks_in name e.reply) _ _ (subst (λ ls. Tells all at [] (procedure_of p e) ls (Some (telling last given (record { places = q; said = said; reads = read })))) is tells) by_text in
      let told : telling last given (record { places = q; said = said; reads = read }) ≡ telling u.first.last u.first.given t.end = same_Some _ _ one in
      other (ap (λ (r : Told (Turn Places)). text_of name r.end.said) told ∙ ap (text_of name) t.said ∙ u.text)
