-- The lines of the names of a list, one name after another.
use Rattle.std.proofs.Common.{◌<◌, ℕ, List, ◌++◌, Option, None, Ok, Err, length, length-append, refl, sym, subst, arith}
use Rattle.std.proofs.KnownBytes.{Appends-trans}
use Rattle.std.specs.Io.KnownBytes.{Appends}
use Rattle.std.specs.List.{concat}
use Rattle.jobs.specs.Due.{Holds, early, whole}
use Rattle.jobs.specs.Every.{AppendsFile, CutsFile}
use Rattle.jobs.specs.Files.{AppendsFiles, CutsRun, EndsBy, Every, WritesName, long_name, short_name}
use Rattle.jobs.specs.Given.{files_ending}
use Rattle.jobs.specs.Gives.{Gives}
use Rattle.jobs.specs.Jobs.{DueList, files_end, first_files}
use Rattle.jobs.specs.Lines.{AppendsNext, StopsList, StopsNext, WritesList, cut_name, cut_part, first_names, in_name, unread_name, unread_part}
use Rattle.jobs.specs.LongNames.{CutsLong, IsRead, WritesLong, rest_failure}
use Rattle.jobs.specs.Names.{IsLongStart, IsShortName, ReadsNames, first_listed, most_name, one_read}
use Rattle.jobs.specs.declared.long_name.Rest.{Rest}
use Rattle.jobs.specs.declared.long_name.Rest.TheVariants.{Ended, Unread}
use Rattle.jobs.specs.declared.names.ListFault.{ListFault}
use Rattle.jobs.specs.declared.names.ListFault.TheVariants as listed
use Rattle.jobs.proofs.EachWritten.{cut_hold, first_hold, kept_written, lines_joined}
use Rattle.jobs.proofs.Holding.{upto_next}
use Rattle.jobs.proofs.NamesRead.{name_joined, part_joined}
use Rattle.run_parts.specs.Told.{AppendsUpTo}
use Rattle.run_parts.specs.declared.outcome.Failure.TheVariants as failure
use Rattle.run_parts.specs.declared.status.Status.{Status}
use Rattle.run_parts.specs.declared.status.Status.TheVariants.{Outside}

module _ (gives : Gives) (every : Every) (list list' out out' : Option (List ℕ)) where
  -- a name whose file is opened
  pub short_written : (name : List ℕ) (status : Status) → IsShortName list name list'
      → AppendsFile gives every name out out' status → AppendsNext gives every list list' out out' status
  short_written name status short h = record {
    name = name;
    is = short.next;
    written = record { line = h.line; written = short_name short.within h.written; appends = h.appends };
  }

  pub short_cut : (name : List ℕ) → IsShortName list name list' → CutsFile gives every name out out'
      → StopsNext gives every list out out' listed.Write
  short_cut name short h = cut_name {name = name} {list' = list'} short.next (record {
    status = h.status;
    line = h.line;
    written = short_name short.within h.written;
    appends = h.appends;
  })

longer : (start more : List ℕ) → most_name < length start → most_name < length (start ++ more)
longer start more long = omega (arith, long, length-append start more)

module _ (gives : Gives) (every : Every) (list mid out out' : Option (List ℕ)) where
  -- a longer one, whose first bytes were read
  pub long_next : (list' : Option (List ℕ)) (start : List ℕ) → IsLongStart list start mid
      → WritesLong every start mid list' out out' Ended
      → AppendsNext gives every list list' out out' Outside
  long_next list' start s h = record {
    name = start ++ h.more;
    is = name_joined list mid list' start h.more s.within (omega (arith, s.long)) s.read h.read;
    written = record {
      line = h.written.line;
      written = long_name (longer start h.more s.long) h.written.written;
      appends = h.written.appends;
    };
  }

  pub long_unread : (list' : Option (List ℕ)) (start : List ℕ) → IsLongStart list start mid
      → WritesLong every start mid list' out out' Unread
      → StopsNext gives every list out out' listed.Read
  long_unread list' start s h = unread_part {part = start ++ h.more}
      (part_joined list mid start h.more s.within s.read h.read) (longer start h.more s.long) h.written

  cut_at_rest : (start more : List ℕ) (rest : Rest) (last : Option (List ℕ)) → IsLongStart list start mid
      → IsRead mid last rest more → CutsRun (EndsBy (rest_failure rest)) every (start ++ more) out out'
      → StopsNext gives every list out out' listed.Write
  cut_at_rest start more Ended last s read h = cut_name {name = start ++ more} {list' = last}
      (name_joined list mid last start more s.within (omega (arith, s.long)) s.read read) (record {
        status = h.status;
        line = h.line;
        written = long_name (longer start more s.long) h.written;
        appends = h.appends;
      })
  cut_at_rest start more Unread last s read h = cut_part {part = start ++ more}
      (part_joined list mid start more s.within s.read read) (longer start more s.long) h

  pub long_cut : (start : List ℕ) → IsLongStart list start mid → CutsLong every start mid out out'
      → StopsNext gives every list out out' listed.Write
  long_cut start s h = cut_at_rest start h.more h.rest h.list' s h.read h.written

-- where a list stops after some names
pub next_stops : (gives : Gives) (every : Every) (IsList : Option (List ℕ) → Type 0)
    (list rest out mid out' : Option (List ℕ)) (greatest : Status) (fault : ListFault) → IsList list
    → AppendsFiles (WritesName gives every) (ReadsNames list rest) out mid greatest
    → StopsNext gives every rest mid out' fault
    → Holds (DueList gives every IsList) out out' (Ok (files_ending (Err fault)))
next_stops gives every IsList list rest out mid out' greatest _ is h (unread_name keeps) =
    first_hold (WritesName gives every) (ReadsNames list rest) (WritesList gives every IsList)
    (StopsList gives every IsList) out greatest out' failure.Read
    (λ names lines read written. first_names refl (first_listed is read) written)
    (kept_written (WritesName gives every) (ReadsNames list rest) out mid out' greatest h keeps)
next_stops gives every IsList list rest out mid out' greatest _ is h (unread_part {part = part} begins long one) =
    whole (files_end (in_name {part = part}
    (record { list = list; rest = rest; is = is; read = h.are; begins = begins }) h.written long one.written))
    (subst (Appends out out') (sym (lines_joined h.lines one.line))
    (Appends-trans out mid out' (concat h.lines) one.line h.appends one.appends))
next_stops gives every IsList list rest out mid out' greatest _ is h (cut_name {name = name} {list' = list'} next cut) =
    cut_hold (WritesName gives every) (ReadsNames list rest) (WritesList gives every IsList)
    (StopsList gives every IsList) out greatest name mid out' None
    (λ names lines last read written. first_names {stop = None} tt
    (first_listed {rest = list'} is (one_read read next)) written)
    h cut
next_stops gives every IsList list rest out mid out' greatest _ is h (cut_part {part = part} begins long cut) =
    early (first_files (in_name {part = part}
    (record { list = list; rest = rest; is = is; read = h.are; begins = begins }) h.written long cut.written))
    (subst (AppendsUpTo out out') (sym (lines_joined h.lines cut.line))
    (upto_next out mid out' (concat h.lines) cut.line h.appends cut.appends))
