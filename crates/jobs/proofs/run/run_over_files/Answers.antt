use Rattle.jobs.proofs.run.run_over_files.Goals as goal

pub returns-in-Request-clause-holds : goal.returns-in-Request-clause-holds
returns-in-Request-clause-holds g c = rw c.in-Request.is c.run_request.ensures.holds

pub returns-in-Request-clause-says : goal.returns-in-Request-clause-says
returns-in-Request-clause-says g c = rw c.in-Request.is c.run_request.ensures.says

pub returns-in-Request-clause-told : goal.returns-in-Request-clause-told
returns-in-Request-clause-told g c = rw c.in-Request.is c.run_request.ensures.told

pub returns-in-Request-clause-opened : goal.returns-in-Request-clause-opened
returns-in-Request-clause-opened g c = rw c.in-Request.is c.run_request.ensures.opened
