-- The effect of the calls of a journal.
use Rattle.std.proofs.Common.{◌≡◌, ◌≢◌, inl, inr, ⊎_elim, ℕ, ◌≤◌, List, Option, Some, IsSomeAnd, refl, sym, subst}
use Rattle.ts_disk.specs.CrashImage.{LeavesOnly, Torn, file_after_write}
use Rattle.ts_disk.proofs.Told.{some_also}
use Rattle.txn_journal.specs.Calls.{Logged, LiesAs, IsAtRest, IsTold, BeginSince}
use Rattle.txn_journal.specs.Contents.{Content, IsFront, content_of_version_2}
use Rattle.txn_journal.specs.Frames.{HoldsTo, StandsFor, StandsForEither, StandsForMore, header}
use Rattle.txn_journal.specs.Writes.{IsWritten, Rests, Tells}
use Rattle.txn_journal.specs.declared.journals.JournalState.{JournalState}
use Rattle.txn_journal.specs.declared.journals.JournalState.TheVariants.{Bare, Ready, Still}
use Rattle.txn_journal.specs.declared.versions.Version.{Version}
use Rattle.txn_journal.specs.declared.versions.Version.TheVariants.{One, Two}
use Rattle.txn_journal.proofs.FrameLaws.{header_holds, raised_holds, torn_header, written_header}

pub lies_ready : (standing : JournalState) (version : Version) (file : List ℕ) (end : ℕ) (content : Content) → standing ≢ Bare → LiesAs standing version file end content → HoldsTo file version end content
lies_ready Bare version file end content armed lies = absurd (armed refl)
lies_ready Ready version file end content armed lies = lies
lies_ready Still version file end content armed lies = absurd lies

-- a journal that has a header keeps it
pub lies_as_ready : (standing : JournalState) (version : Version) (file : List ℕ) (end : ℕ) (content : Content) (other : Version) (next : List ℕ) (later : ℕ) (all : Content) → standing ≢ Bare
    → LiesAs standing version file end content → HoldsTo next other later all → LiesAs standing other next later all
lies_as_ready Bare version file end content other next later all armed lies holds = absurd (armed refl)
lies_as_ready Ready version file end content other next later all armed lies holds = holds
lies_as_ready Still version file end content other next later all armed lies holds = absurd lies

pub lies_stands : (standing : JournalState) (version : Version) (file : List ℕ) (end : ℕ) (content : Content) → LiesAs standing version file end content → StandsFor file content
lies_stands Bare version file end content lies = inl (lies.0, lies.2)
lies_stands Ready version file end content lies = inr lies.holds
lies_stands Still version file end content lies = absurd lies

module _ {D : Type 0} (bytes : D → Option (List ℕ)) (may_leave : D → List ℕ → Type 0) (moment : D → ℕ) (left_since : D → ℕ → List ℕ → Type 0) where
  -- reads of a journal with a header return what reads of its disk return
  pub tells_from : (journal : Logged D) (content : Content) → journal.standing ≢ Bare → IsTold bytes journal content → Tells bytes journal.disk journal.version journal.end content
  tells_from journal content armed tells = record {
    file = tells.file;
    told = tells.told;
    lies = lies_ready journal.standing journal.version tells.file journal.end content armed tells.lies;
  }

  -- and it is at rest if its disk is
  pub rests_from : (journal : Logged D) (content : Content) → journal.standing ≢ Bare → IsAtRest bytes may_leave journal content → Rests bytes may_leave journal.disk journal.version journal.end content
  unfolding tells_from
  rests_from journal content armed rest = record { tells = tells_from journal content armed rest.tells; durable = rest.durable }

  -- the crash images after a call on a disk at rest
  pub run_from : (old : Logged D) (new : D) (P : Content → List ℕ → Type 0)
      → ((content : Content) → Rests bytes may_leave old.disk old.version old.end content → LeavesOnly moment left_since old.disk new (P content))
      → old.standing ≢ Bare → (content : Content) → IsAtRest bytes may_leave old content → LeavesOnly moment left_since old.disk new (P content)
  run_from old new P run armed content rest = run content (rests_from old content armed rest)

  -- the content of reads after a call, given the content before it
  pub shown_from : (old : Logged D) (P : Content → Type 0) → ((content : Content) → Tells bytes old.disk old.version old.end content → P content)
      → old.standing ≢ Bare → (content : Content) → IsTold bytes old content → P content
  shown_from old P shown armed content tells = shown content (tells_from old content armed tells)

  -- the content after a call that succeeded
  pub rests_after : (old : Logged D) (new : D) (version : Version) (end later : ℕ) (now : Content → Content)
      → ((content : Content) → Tells bytes old.disk old.version old.end content → Rests bytes may_leave new version later (now content))
      → end ≡ later → old.standing ≢ Bare → (content : Content) → IsTold bytes old content
      → IsAtRest bytes may_leave (record { disk = new; version = version; end = end; standing = old.standing }) (now content)
  rests_after old new version end later now done is armed content tells =
      let rests = done content (tells_from old content armed tells) in
      record {
        tells = record {
          file = rests.tells.file;
          told = rests.tells.told;
          lies = subst (λ (n : ℕ). LiesAs old.standing version rests.tells.file n (now content)) (sym is)
              (lies_as_ready old.standing old.version tells.file old.end content version rests.tells.file later (now content) armed tells.lies rests.tells.lies);
        };
        durable = rests.durable;
      }

  -- a header over a file of at most nine bytes
  pub armed : (old : Logged D) (new : D) → ((file : List ℕ) → bytes old.disk ≡ Some file → IsWritten bytes may_leave new (file_after_write file 0 header))
      → old.standing ≡ Bare → (content : Content) → IsTold bytes old content
      → IsAtRest bytes may_leave (record { disk = new; version = old.version; end = 8; standing = Ready }) content
  armed old new done is content tells =
      let lies : LiesAs Bare old.version tells.file old.end content = subst (λ (s : JournalState). LiesAs s old.version tells.file old.end content) is tells.lies in
      let wrote = done tells.file tells.told in
      let whole : file_after_write tells.file 0 header ≡ header = written_header tells.file lies.0 in
      record {
        tells = record {
          file = file_after_write tells.file 0 header;
          told = wrote.told;
          lies = subst (λ (file : List ℕ). HoldsTo file old.version 8 content) (sym whole)
              (subst (λ (v : Version). HoldsTo header v 8 content) (sym lies.3) (subst (HoldsTo header One 8) (sym lies.2) header_holds));
        };
        durable = wrote.durable;
      }

  -- and the content of reads if the header may be torn
  pub armed_shows : (old : Logged D) (new : D) → ((file : List ℕ) → bytes old.disk ≡ Some file → IsSomeAnd (bytes new) (Torn 0 9 file))
      → old.standing ≡ Bare → (content : Content) → IsTold bytes old content → IsSomeAnd (bytes new) (λ file. StandsFor file content)
  armed_shows old new shown is content tells =
      let lies : LiesAs Bare old.version tells.file old.end content = subst (λ (s : JournalState). LiesAs s old.version tells.file old.end content) is tells.lies in
      some_also (bytes new) (Torn 0 9 tells.file) (λ file. StandsFor file content)
      (λ now torn. subst (StandsFor now) (sym lies.2) (torn_header tells.file now lies.0 torn)) (shown tells.file tells.told)

  -- a journal of version 2 has the content that it would get
  pub raised_tells : (old : Logged D) → old.version ≡ Two → old.standing ≢ Bare → (content : Content) → IsTold bytes old content → content_of_version_2 content ≡ content
  raised_tells old is armed content tells =
      raised_holds tells.file old.end content
      (subst (λ (v : Version). HoldsTo tells.file v old.end content) is (lies_ready old.standing old.version tells.file old.end content armed tells.lies))

  -- images whose content begins with this, after those since an earlier moment
  pub begin_on : (old new : D) (P : List ℕ → Type 0) (t : ℕ) (before : Content) → LeavesOnly moment left_since old new P → ((c : List ℕ) → P c → StandsForMore before c)
      → t ≤ moment old → BeginSince left_since old t before → BeginSince left_since new t before
  begin_on old new P t before run more le begin c left = ⊎_elim (begin c) (more c) (run.before t c le left)

pub either_more : (before one other : Content) (c : List ℕ) → IsFront before one → IsFront before other → StandsForEither one other c → StandsForMore before c
either_more before one other c first second (inl stands) = record { all = one; stands = stands; begins = first }
either_more before one other c first second (inr stands) = record { all = other; stands = stands; begins = second }

pub stands_for_more : (before content : Content) (c : List ℕ) → IsFront before content → StandsFor c content → StandsForMore before c
stands_for_more before content c is stands = record { all = content; stands = stands; begins = is }
