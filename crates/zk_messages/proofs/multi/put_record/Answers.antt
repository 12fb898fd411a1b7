use Rattle.zk_messages.proofs.multi.put_record.Goals as goal

pub returns-in-Create : goal.returns-in-Create
returns-in-Create c = rw c.in-Create.is c.write.ensures

pub returns-in-Delete : goal.returns-in-Delete
returns-in-Delete c = rw c.in-Delete.is c.write-in-Delete.ensures

pub returns-in-SetContent : goal.returns-in-SetContent
returns-in-SetContent c = rw c.in-SetContent.is c.write-in-SetContent.ensures

pub returns-in-Check : goal.returns-in-Check
returns-in-Check c = rw c.in-Check.is c.write-in-Check.ensures

pub returns-in-Create2 : goal.returns-in-Create2
returns-in-Create2 c = rw c.in-Create2.is c.write-in-Create2.ensures
