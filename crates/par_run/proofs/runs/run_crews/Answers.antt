use Rattle.std.proofs.Common.{◌≡◌, ◌≢◌, ◌∙◌, ◌++◌, ◌&&◌, not, true, false, map, ap, refl, sym, subst, true≢false}
use Rattle.std.specs.List.{list_any}
use Rattle.ts_model.specs.States.{stands_still}
use Rattle.shared_store.specs.Wrapped.{GoesOn}
use Rattle.par_workers.specs.Slots.{workers_of}
use Rattle.par_laws.proofs.BrokenLaws.{crews_ran, ran_worked}
use Rattle.par_laws.proofs.OneHistory.{par_laws, looked_allowed, snapped_same}
use Rattle.par_run.specs.declared.ends.ParStop.TheVariants.{NoMemory}
use Rattle.par_run.specs.Crews.{scripts_in, CrewsRan, CrewsRanAsFar}
use Rattle.par_run.specs.Ends.{is_disk_fault, stop_by}
use Rattle.par_run.specs.Outputs.{output_in, output_of, refusals_only, with_sessions}
use Rattle.par_run.specs.Workers.{ran_out, replies_of, worker_script}
use Rattle.par_run.proofs.OutputLaws.{reads_replied, says, talk_names}
use Rattle.par_run.proofs.RunLaws.{HasReplied, enough_is, goes_on_looked, has_replied, idle_workers, names_of_three, stop_is, unread}
use Rattle.transcript.specs.declared.transcripts.SessionTranscript.{SessionTranscript}
use Rattle.par_run.proofs.runs.run_crews.Goals as goal
use Rattle.par_run.proofs.runs.run_crews.Goals.{then-enough, else-enough}

-- if the run didn't run out of memory, no worker did
replied : (g : _) (c : goal.After-end_run g) → c.end_run.result.stop ≢ NoMemory
    → HasReplied (list_any ran_out (workers_of c.run_crew-pass.new.crew.items) ≡ false) (list_any ran_out (workers_of c.run_crew-pass-2.new.crew.items) ≡ false) (list_any ran_out (workers_of c.run_crew-pass-3.new.crew.items) ≡ false)
    (c.end_run.result.stop ≡ stop_by (stands_still (g.B.Backend.state c.snap.new.self)))
    (λ o. output_in o ≡ with_sessions (map (replies_of g.A.Actor.named) (workers_of c.run_crew-pass-3.new.crew.items)) (with_sessions (map (replies_of g.A.Actor.named) (workers_of c.run_crew-pass-2.new.crew.items)) (with_sessions (map (replies_of g.A.Actor.named) (workers_of c.run_crew-pass.new.crew.items)) (refusals_only c.args.crews.refusals.items))))
    (λ o. output_in o ≡ output_of c.end_run.result)
replied g c other = has_replied _ _ _ _ _ _ (c.end_run.result.stop ≡ NoMemory) c.all_replies.result c.all_replies.ensures.setup c.all_replies.ensures.at_once c.all_replies.ensures.last c.end_run.ensures.stop c.all_replies.ensures.output c.end_run.ensures.output other

pub returns-clause-ran : goal.returns-clause-ran
returns-clause-ran g c = λ other.
    let r = replied g c other in
    let state = g.B.Backend.state in
    let actors = g.A.Actor in
    let first_places = actors.semantics.opening 0 in
    let crews = c.args.crews in
    let one = c.run_crew-pass in
    let two = c.run_crew-pass-2 in
    let three = c.run_crew-pass-3 in
    let first : c.had_memory-enough.result ≡ true = enough_is c.as_slice.result.now one.new.crew.items c.had_memory-enough.result c.had_memory-enough.ensures c.as_slice.ensures.value r.setup in
    let second : c.if-enough.enough ≡ true =
    elim c.if-enough.branch [
      | then-enough w ↦ w.enough-is ∙ enough_is w.as_slice-then-enough.result.now two.new.crew.items w.had_memory-enough-then-enough.result w.had_memory-enough-then-enough.ensures w.as_slice-then-enough.ensures.value r.at_once
      | else-enough w ↦ absurd (true≢false (sym first ∙ w.if-enough.false))
    ] in
    let before = map (replies_of g.A.Actor.named) (workers_of one.new.crew.items) in
    let between = map (replies_of g.A.Actor.named) (workers_of two.new.crew.items) in
    let after = map (replies_of g.A.Actor.named) (workers_of three.new.crew.items) in
    let counted = reads_replied actors.named (workers_of one.new.crew.items) (workers_of two.new.crew.items) (workers_of three.new.crew.items) c.end_run.result.reads (c.end_run.ensures.reads ∙ c.all_reads-reads.ensures) in
    let with_memory = ran_worked actors.within actors.semantics.does first_places (worker_script actors.named) (replies_of actors.named) ran_out state c.args.store in
    let ran =
    par_laws actors.within actors.semantics.does actors.replies first_places c.tells_replies.ensures (worker_script actors.named) (replies_of actors.named) ran_out state c.args.store g.B.Backend.alone (scripts_in actors.named crews.setup.items) (scripts_in actors.named crews.at_once.items) (scripts_in actors.named crews.last.items) (state c.snap.new.self) before between after
    (record {
      start = c.args.pass;
      middle = one.result;
      later = two.result;
      last = three.result;
      setup_old = workers_of crews.setup.items;
      setup_new = workers_of one.new.crew.items;
      others_old = workers_of crews.at_once.items;
      others_new = workers_of two.new.crew.items;
      final_old = workers_of crews.last.items;
      final_new = workers_of three.new.crew.items;
      start_seen = c.requires.first.pass_seen;
      start_made = c.requires.first.pass_made;
      setup_ran = record { begins = one.ensures.begins; stays = one.ensures.stays; ran = with_memory c.args.pass one.result (workers_of crews.setup.items) (workers_of one.new.crew.items) (one.ensures.ran refl); are = refl; sufficed = r.setup };
      others_ran = record { begins = two.ensures.begins; stays = two.ensures.stays; ran = with_memory one.result two.result (workers_of crews.at_once.items) (workers_of two.new.crew.items) (two.ensures.ran first); are = refl; sufficed = r.at_once };
      final_ran = record { begins = three.ensures.begins; stays = three.ensures.stays; ran = with_memory two.result three.result (workers_of crews.last.items) (workers_of three.new.crew.items) (three.ensures.ran second); are = refl; sufficed = r.last };
      closed = state c.close-backend.result;
      history = c.close-backend.ensures.history;
      failed = c.close-backend.ensures.failed;
      made = c.close-backend.ensures.made;
      is_alone = c.requires.alone;
      looked = looked_allowed g.B.Backend.alone (state c.close-backend.result) (state c.snap.new.self) c.snap.ensures.looked;
      before_is = refl;
      between_is = refl;
      after_is = refl;
    }) in
    let told = says crews.refusals.items before between after (output_of c.end_run.result) c.end_run.result.reads (sym r.ends ∙ r.are) counted in
    subst (λ b. CrewsRan actors (state c.args.store.opened.value).history crews (state b) (output_of c.end_run.result) c.end_run.result.reads) (sym c.end_run.ensures.backend)
    (record {
      before = before;
      between = between;
      after = after;
      ran = ran;
      says = told;
      names = names_of_three actors.replies first_places (state c.args.store.opened.value).history (scripts_in actors.named crews.setup.items) (scripts_in actors.named crews.at_once.items) (scripts_in actors.named crews.last.items) (state c.snap.new.self) before between after (map (λ (talk : SessionTranscript). talk.name) c.end_run.result.sessions) ran (ap (map (λ (talk : SessionTranscript). talk.name)) told.sessions ∙ talk_names (before ++ between ++ after));
    })

pub returns-clause-as_far : goal.returns-clause-as_far
returns-clause-as_far g c =
    let state = g.B.Backend.state in
    let actors = g.A.Actor in
    let crews = c.args.crews in
    let opening = (state c.args.store.opened.value).history in
    let closed = state c.close-backend.result in
    let one = c.run_crew-pass in
    let two = c.run_crew-pass-2 in
    let three = c.run_crew-pass-3 in
    let first = c.had_memory-enough.result in
    let lacked = not (list_any ran_out (workers_of two.new.crew.items)) in
    let second : c.if-enough.enough ≡ (first && lacked) =
    elim c.if-enough.branch [
      | then-enough w ↦ w.enough-is ∙ w.had_memory-enough-then-enough.ensures ∙ ap (λ s. not (list_any ran_out (workers_of s))) w.as_slice-then-enough.ensures.value ∙ ap (λ b. b && lacked) (sym w.if-enough.true)
      | else-enough w ↦ w.enough-is ∙ w.if-enough.false ∙ ap (λ b. b && lacked) (sym w.if-enough.false)
    ] in
    let ran =
    crews_ran actors.within actors.semantics.does (actors.semantics.opening 0) (worker_script actors.named) (replies_of actors.named) ran_out state c.args.store
    (scripts_in actors.named crews.setup.items) (scripts_in actors.named crews.at_once.items) (scripts_in actors.named crews.last.items) closed c.end_run.result.reads
    (record {
      start = c.args.pass;
      middle = one.result;
      later = two.result;
      last = three.result;
      setup_old = workers_of crews.setup.items;
      setup_new = workers_of one.new.crew.items;
      others_old = workers_of crews.at_once.items;
      others_new = workers_of two.new.crew.items;
      final_old = workers_of crews.last.items;
      final_new = workers_of three.new.crew.items;
      start_seen = c.requires.first.pass_seen;
      start_made = c.requires.first.pass_made;
      first = first;
      second = c.if-enough.enough;
      first_is = c.had_memory-enough.ensures ∙ ap (λ s. not (list_any ran_out (workers_of s))) c.as_slice.ensures.value;
      second_is = second;
      setup_came = record { begins = one.ensures.begins; stays = one.ensures.stays; idle = idle_workers true c.args.pass one.result crews.setup.items one.new.crew.items one.ensures.idle; ran = one.ensures.ran; are = refl; unread = unread actors (workers_of crews.setup.items) c.requires.ready.setup_is };
      others_came = record { begins = two.ensures.begins; stays = two.ensures.stays; idle = idle_workers first one.result two.result crews.at_once.items two.new.crew.items two.ensures.idle; ran = two.ensures.ran; are = refl; unread = unread actors (workers_of crews.at_once.items) c.requires.ready.at_once_are };
      final_came = record { begins = three.ensures.begins; stays = three.ensures.stays; idle = idle_workers c.if-enough.enough two.result three.result crews.last.items three.new.crew.items three.ensures.idle; ran = three.ensures.ran; are = refl; unread = unread actors (workers_of crews.last.items) c.requires.ready.last_is };
      history = c.close-backend.ensures.history;
      failed = c.close-backend.ensures.failed;
      made = c.close-backend.ensures.made;
      counted = c.end_run.ensures.reads ∙ c.all_reads-reads.ensures;
    }) in
    let looked = snapped_same g.B.Backend.alone closed (state c.snap.new.self) c.requires.alone c.snap.ensures.looked in
    subst (λ s. CrewsRanAsFar actors opening crews s c.end_run.result.reads) (sym (ap state c.end_run.ensures.backend ∙ looked)) ran

pub returns-clause-stop : goal.returns-clause-stop
returns-clause-stop g c = λ other.
    let r = replied g c other in
    ap (λ b. stands_still (g.B.Backend.state b)) c.end_run.ensures.backend ∙ sym (ap is_disk_fault r.stop ∙ stop_is (stands_still (g.B.Backend.state c.snap.new.self)))

pub returns-clause-goes_on : goal.returns-clause-goes_on
returns-clause-goes_on g c =
    let first = g.B.Backend.state c.args.store.opened.value in
    let closed = g.B.Backend.state c.close-backend.result in
    let new = g.B.Backend.state c.snap.new.self in
    subst (λ b. GoesOn first (g.B.Backend.state b)) (sym c.end_run.ensures.backend) (goes_on_looked g.B.Backend.alone first closed new c.requires.alone c.snap.ensures.looked c.close-backend.ensures.goes_on)
